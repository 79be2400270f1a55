-- A take hands out the oldest waiting scan, which the survey tells. Assumes nothing.
use mathlib.Core.Path.{◌≡◌, refl, sym, ap, ◌∙◌}
use mathlib.Core.Logic.{⊎_elim}
use mathlib.Core.Bool.{true, false}
use mathlib.Core.List.{List, [], ◌∷◌}
use Prim.Native.Nat.{ℕ, ◌+◌, ◌≤◌}
use native.Mathlib.Omega.{arith}
use lib.Dec.{eqb}
use lib.ListN.{length, get_or}
use borrow.Author.Tests.{eqb-false}
use Rattle.std.specs.Prelude.{Option, None, Some}
use Rattle.model.proofs.Bool.{which}
use Rattle.scan_queue.specs.Payload.{Scan, bytes_of, payload_of}
use Rattle.scan_queue.specs.Slots.{Pages, sealed_of, slot_at, words_at, blank, waits, places, Entry, queue}
use Rattle.scan_queue.proofs.Order.{In, head_in}
use Rattle.scan_queue.proofs.Words.{unsealed}
use Rattle.scan_queue.proofs.PowerCut.{places_inside}
use Rattle.slots.specs.Code.{payload_bytes, to_scan, HeldAs}
use Rattle.slots.specs.declared.Found.{Found}
use Rattle.slots.proofs.Reading.{payload_long}
use Rattle.survey.specs.declared.Oldest.{Oldest}
use Rattle.survey.specs.declared.Survey.{Survey}
use Rattle.survey.specs.Survey.{nothing, surveyed}
use Rattle.survey.proofs.Surveying.{head_of, tells_oldest}
use Rattle.scan_plans.specs.Plans.{OldestIs}

-- ---- a waiting slot's payload

sealed_holds : (mark : ℕ) (w : Option Scan) (s : Scan) → waits (sealed_of mark w) ≡ Some s → w ≡ Some s
sealed_holds mark None s h = cc
sealed_holds mark (Some t) s h =
    ⊎_elim
    (λ (e : eqb mark blank ≡ true). rw e at h)
    (λ (e : eqb mark blank ≡ false).
    ⊎_elim
    (λ (f : eqb mark 0 ≡ true). let g : ◌≡◌ {A = Option Scan} None (Some s) = rw f at (rw e at h) in cc)
    (λ (f : eqb mark 0 ≡ false). let g : ◌≡◌ {A = Option Scan} None (Some s) = rw f at (rw e at h) in cc)
    (which (eqb mark 0)))
    (which (eqb mark blank))

waiting_holds : (m : List ℕ) (p : ℕ) (s : Scan) → waits (slot_at m p) ≡ Some s → payload_of (payload_bytes m p) ≡ Some s
unfolding slot_at payload_bytes
waiting_holds m p s h =
    ⊎_elim
    (λ (e : eqb (get_or m p 0) 0 ≡ true). sealed_holds (get_or m (p + 1) 0) (payload_of (bytes_of (words_at 14 m (p + 2)))) s (rw e at h))
    (λ (e : eqb (get_or m p 0) 0 ≡ false).
    let z : ◌≡◌ {A = Option Scan} None (Some s) = sym (unsealed m p (eqb-false (get_or m p 0) 0 e)) ∙ h in
    cc)
    (which (eqb (get_or m p 0) 0))

-- ---- the oldest

module _ (m : List ℕ) (a b : ℕ) (g : Pages m a b) (s : Survey) (seen : s ≡ surveyed m (places a b) nothing) where
  head_is : s.oldest ≡ head_of (queue m (places a b))
  head_is = rw seen (tells_oldest m (places a b))

  pub nothing_waits : s.oldest ≡ None → OldestIs m None (queue m (places a b))
  nothing_waits e = go (queue m (places a b)) (sym e ∙ head_is)
    where
      go : (q : List Entry) → None ≡ head_of q → OldestIs m None q
      go [] h = tt
      go (x ∷ l) h = cc

  module _ (o : Oldest) (is : s.oldest ≡ Some o) where
    record Head : Type 0 where
      entry : Entry
      others : List Entry
      first : queue m (places a b) ≡ entry ∷ others
      at : o.place ≡ entry.place

    head : Head
    head = go (queue m (places a b)) refl (sym is ∙ head_is)
      where
        go : (q : List Entry) → queue m (places a b) ≡ q → Some o ≡ head_of q → Head
        go [] k h = let z : ⊥ = cc in absurd z
        go (x ∷ l) k h = record { entry = x; others = l; first = k; at = let z : o ≡ record { place = x.place; serial = x.scan.serial } = cc in ap (λ (y : Oldest). y.place) z }

    head_at : (h : Head) → In h.entry.place (places a b) × (waits (slot_at m h.entry.place) ≡ Some h.entry.scan)
    unfolding queue
    head_at h = head_in (λ q. waits (slot_at m q)) (places a b) h.entry h.others h.first

    pub oldest_inside : o.place + 16 ≤ length m
    oldest_inside = let h = head in rw h.at (places_inside m a b h.entry.place g (head_at h).0)

    holds : (h : Head) → payload_of (payload_bytes m o.place) ≡ Some h.entry.scan
    holds h = ap (λ (k : ℕ). payload_of (payload_bytes m k)) h.at ∙ waiting_holds m h.entry.place h.entry.scan (head_at h).1

    -- Its payload is well formed,
    pub never : HeldAs (payload_bytes m o.place) (payload_of (payload_bytes m o.place)) None → ⊥
    never held = let z : ◌≡◌ {A = Option Scan} None (Some head.entry.scan) = held.is ∙ holds head in cc

    -- and it is what is handed out.
    pub found_taken : (f : Found) → HeldAs (payload_bytes m o.place) (payload_of (payload_bytes m o.place)) (Some f)
        → OldestIs m (Some (record { place = o.place; found = f })) (queue m (places a b))
    found_taken f held = go head
      where
        go : Head → OldestIs m (Some (record { place = o.place; found = f })) (queue m (places a b))
        go h =
            let z : Some (to_scan (payload_bytes m o.place) f) ≡ Some h.entry.scan = held.is ∙ holds h in
            let same : to_scan (payload_bytes m o.place) f ≡ h.entry.scan = cc in
            let long : length (payload_bytes m o.place) ≡ 56 = payload_long m o.place in
            rw h.first (record {
              place = h.at;
              scan = same;
              inside = oldest_inside;
              fits = held.lies.0;
              lies = omega (arith, held.lies.1);
            })
