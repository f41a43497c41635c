use Rattle.std.proofs.Common.{◌≡◌, ℕ, ◌+◌, ◌-◌, List, sym, subst, arith}
use Rattle.std.proofs.lemmas.Result.{err_from_is_err_and}
use Rattle.object_file.specs.file_parts.Parts.{Reader, ruled, byte_at, in_turn, stands_in_name, name_bytes}
use Rattle.object_file.proofs.file_parts.LoopLaws.{with_front, loop-next, loop-stop, loop-end}
use Rattle.object_file.proofs.file_parts.reading.name_bytes.Goals as goal

abbrev byte_of_name : ℕ → Reader ℕ
byte_of_name k = ruled (stands_in_name k) byte_at

pub returns-in_err-byte : goal.returns-in_err-byte
returns-in_err-byte c =
    let p = err_from_is_err_and c.from_residual.result c.from_residual.ensures.1 in
    rw (p.1, p.2) (loop-stop byte_of_name (λ k _. k + 1) c.in_err-byte.field-0.0 c.loop-k.text.items c.args.count c.loop-k.k c.loop-k.k c.loop-k.rest.now (name_bytes c.args.count c.args.bytes.now) c.loop-k-test.true c.in_err-byte.ensures c.loop-k.invariant.0)

pub loop-k-preserved : goal.loop-k-preserved
loop-k-preserved c =
    let next = loop-next byte_of_name (λ k _. k + 1) c.loop-k.text.items c.args.count c.loop-k.k c.loop-k.k c.loop-k.rest.now c.in_ok-byte.byte c.in_ok-byte.after.now (name_bytes c.args.count c.args.bytes.now) c.loop-k-test.true c.in_ok-byte.ensures c.loop-k.invariant.0 in
    let P : List ℕ → Type 0 = λ text. with_front text (in_turn byte_of_name (λ k _. k + 1) (c.args.count - (c.loop-k.k + 1)) (c.loop-k.k + 1) c.in_ok-byte.after.now) ≡ name_bytes c.args.count c.args.bytes.now in
    (subst P (sym c.push.ensures.items) next, omega (arith, c.push.ensures.len, c.loop-k.invariant.1))

pub returns : goal.returns
returns c = loop-end byte_of_name (λ k _. k + 1) c.loop-k.text.items c.args.count c.loop-k.k c.loop-k.k c.loop-k.rest.now (name_bytes c.args.count c.args.bytes.now) c.loop-k-test.false c.loop-k.invariant.0
