use Rattle.std.proofs.Common.{◌∙◌, ap, arith}
use Rattle.numbers.specs.Number.{value_of, next_of}
use Rattle.expansions.specs.declared.Laid.{Laid}
use Rattle.expansions.proofs.Turns.{goes_on, turning_room, turning_more}
use Rattle.expansions.proofs.Lays.{tag_falls, lays_end, first_room, rest_room, lays_both, once_room, lays_once, shallow, count_falls, count_some, turn_room, turns_begin, lays_turns}
use Rattle.expansions.proofs.+lay_block_lay_entry.Goals as goal

pub lay_block-returns-then-value-eq0 : goal.lay_block-returns-then-value-eq0
lay_block-returns-then-value-eq0 t c =
    let v = c.value_of-value.ensures ∙ ap value_of c.number-tag.ensures in
    let y = c.next_of-next.ensures ∙ ap next_of c.number-tag.ensures in
    lays_end _ _ _ _ c.requires _ _ v y c.if-value-eq0.true

pub lay_block-lay_entry-first-requires : goal.lay_block-lay_entry-first-requires
lay_block-lay_entry-first-requires t c =
    let v = c.value_of-value.ensures ∙ ap value_of c.number-tag.ensures in
    let y = c.next_of-next.ensures ∙ ap next_of c.number-tag.ensures in
    let h = tag_falls _ _ _ _ c.requires _ _ v y in
    (omega arith, first_room _ _ _ _ c.requires _ _ v y c.if-value-eq0.false)

pub lay_block-lay_block-requires : goal.lay_block-lay_block-requires
lay_block-lay_block-requires t c =
    let v = c.value_of-value.ensures ∙ ap value_of c.number-tag.ensures in
    let y = c.next_of-next.ensures ∙ ap next_of c.number-tag.ensures in
    let r = rest_room _ _ _ _ c.requires _ _ v y c.if-value-eq0.false _ c.lay_entry-first.ensures.1 in
    let h = tag_falls _ _ _ _ c.requires _ _ v y in
    (omega (arith, r.1), r.0)

pub lay_block-returns : goal.lay_block-returns
lay_block-returns t c =
    let v = c.value_of-value.ensures ∙ ap value_of c.number-tag.ensures in
    let y = c.next_of-next.ensures ∙ ap next_of c.number-tag.ensures in
    lays_both _ _ _ _ c.requires _ _ v y c.if-value-eq0.false
    c.args.places.now _ _ c.lay_entry-first.ensures.0 c.lay_entry-first.ensures.1 c.lay_block.ensures.0 c.lay_block.ensures.1

pub lay_entry-overflow_add-depth : goal.lay_entry-overflow_add-depth
lay_entry-overflow_add-depth t c =
    let v = c.value_of-k.ensures ∙ ap value_of c.number_to-times.ensures in
    let y = c.next_of-inner.ensures ∙ ap next_of c.number_to-times.ensures in
    omega (arith, shallow _ _ _ _ _ _ c.requires c.if-tag-eq-REPEAT.true _ _ v y)

pub lay_entry-lay_block-first-requires : goal.lay_entry-lay_block-first-requires
lay_entry-lay_block-first-requires t c =
    let v = c.value_of-k.ensures ∙ ap value_of c.number_to-times.ensures in
    let y = c.next_of-inner.ensures ∙ ap next_of c.number_to-times.ensures in
    let h = count_falls _ _ _ _ _ _ c.requires c.if-tag-eq-REPEAT.true _ _ v y in
    (omega arith, turn_room _ _ _ _ _ _ c.requires c.if-tag-eq-REPEAT.true _ _ v y)

pub lay_entry-overflow_sub-further : goal.lay_entry-overflow_sub-further
lay_entry-overflow_sub-further t c =
    let v = c.value_of-k.ensures ∙ ap value_of c.number_to-times.ensures in
    let y = c.next_of-inner.ensures ∙ ap next_of c.number_to-times.ensures in
    omega (arith, count_some _ _ _ _ _ _ c.requires c.if-tag-eq-REPEAT.true _ _ v y)

pub lay_entry-loop-again-init : goal.lay_entry-loop-again-init
lay_entry-loop-again-init t c =
    let v = c.value_of-k.ensures ∙ ap value_of c.number_to-times.ensures in
    let y = c.next_of-inner.ensures ∙ ap next_of c.number_to-times.ensures in
    turns_begin _ _ _ _ _ _ c.requires c.if-tag-eq-REPEAT.true _ _ v y _ c.lay_block-first.ensures.1

pub lay_entry-overflow_add-depth-in-loop-again : goal.lay_entry-overflow_add-depth-in-loop-again
lay_entry-overflow_add-depth-in-loop-again t c =
    let v = c.value_of-k.ensures ∙ ap value_of c.number_to-times.ensures in
    let y = c.next_of-inner.ensures ∙ ap next_of c.number_to-times.ensures in
    omega (arith, shallow _ _ _ _ _ _ c.requires c.if-tag-eq-REPEAT.true _ _ v y)

pub lay_entry-lay_block-more-requires : goal.lay_entry-lay_block-more-requires
lay_entry-lay_block-more-requires t c =
    let v = c.value_of-k.ensures ∙ ap value_of c.number_to-times.ensures in
    let y = c.next_of-inner.ensures ∙ ap next_of c.number_to-times.ensures in
    let h = count_falls _ _ _ _ _ _ c.requires c.if-tag-eq-REPEAT.true _ _ v y in
    (omega arith, turning_room c.loop-again.invariant (goes_on _ _ _ c.loop-again-test.true))

pub lay_entry-loop-again-preserved : goal.lay_entry-loop-again-preserved
lay_entry-loop-again-preserved t c =
    turning_more c.loop-again.invariant (goes_on _ _ _ c.loop-again-test.true) c.lay_block-more.ensures.0 (ap (λ (x : Laid). x.count) c.lay_block-more.ensures.1)

pub lay_entry-returns-then-tag-eq-REPEAT : goal.lay_entry-returns-then-tag-eq-REPEAT
lay_entry-returns-then-tag-eq-REPEAT t c =
    let v = c.value_of-k.ensures ∙ ap value_of c.number_to-times.ensures in
    let y = c.next_of-inner.ensures ∙ ap next_of c.number_to-times.ensures in
    lays_turns _ _ _ _ _ _ c.requires c.if-tag-eq-REPEAT.true _ _ v y
    c.args.places.now c.lay_block-first.result c.lay_block-first.ensures.0 c.lay_block-first.ensures.1 c.loop-again.invariant c.loop-again-test.false

pub lay_entry-bounds-places-n : goal.lay_entry-bounds-places-n
lay_entry-bounds-places-n t c =
    once_room _ _ _ _ _ _ c.requires c.if-tag-eq-REPEAT.false _ c.last_number-end.ensures

pub lay_entry-returns : goal.lay_entry-returns
lay_entry-returns t c =
    lays_once _ _ _ _ _ _ c.requires c.if-tag-eq-REPEAT.false _ c.last_number-end.ensures c.next_of.ensures c.args.places.now
