use Rattle.std.proofs.Common.{◌≡◌, Some, sym, refl, ◌∙◌}
use Rattle.std.specs.Result.{result_ok}
use Rattle.slots.proofs.Holding.{no_serial, no_count, payload_is, room}
use Rattle.slots.proofs.payload_in.Goals as goal

pub returns-in_err-serial : goal.returns-in_err-serial
returns-in_err-serial c =
    let e = no_serial c.args.bytes.now c.number_to.result c.number_to.ensures (sym c.ok.ensures.value ∙ c.in_err-serial.was) in
    rw (e, c.from_residual.ensures) (record { is = refl; lies = tt })

pub returns-in_err-count : goal.returns-in_err-count
returns-in_err-count c =
    let read : result_ok c.number_to.result ≡ Some c.in_ok-serial.serial = sym c.ok.ensures.value ∙ c.in_ok-serial.was in
    let e = no_count c.args.bytes.now c.number_to.result c.number_to.ensures c.in_ok-serial.serial read
    c.number_to-2.result c.number_to-2.ensures (sym c.ok-2.ensures.value ∙ c.in_err-count.was) in
    rw (e, c.from_residual-in_err-count.ensures) (record { is = refl; lies = tt })

pub body_at-requires : goal.body_at-requires
body_at-requires c =
    let read : result_ok c.number_to.result ≡ Some c.in_ok-serial.serial = sym c.ok.ensures.value ∙ c.in_ok-serial.was in
    room c.args.bytes.now c.number_to.result c.number_to.ensures c.in_ok-serial.serial read
    c.number_to-2.result c.number_to-2.ensures c.in_ok-count.count (sym c.ok-2.ensures.value ∙ c.in_ok-count.was)

pub returns : goal.returns
returns c =
    let read : result_ok c.number_to.result ≡ Some c.in_ok-serial.serial = sym c.ok.ensures.value ∙ c.in_ok-serial.was in
    let e = payload_is c.args.bytes.now c.number_to.result c.number_to.ensures c.in_ok-serial.serial read
    c.number_to-2.result c.number_to-2.ensures c.in_ok-count.count (sym c.ok-2.ensures.value ∙ c.in_ok-count.was) in
    rw e c.body_at.ensures
