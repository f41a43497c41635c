use Rattle.std.proofs.Common.{◌≡◌, ◌+◌, length, vec_len, sym, refl, arith}
use Rattle.literal_programs.proofs.literal_code.Pool.{statements_in-write_at, full-write}
use Rattle.literal_programs.proofs.literal_code.program.LiteralProgram.write.Goals as goal

pub returns-clause-says : goal.returns-clause-says
returns-clause-says c =
    let grown = c.in_ok-extend_from_slice.ensures.items in
    let pushed = c.in_ok-push.ensures.items in
    let from : c.len.result ≡ length c.args.self.now.pool.items = omega (arith, c.len.ensures, c.args.self.now.pool.ok) in
    let within = rw (sym c.len.ensures) at c.args.self.now.within in
    rw (grown, pushed) (statements_in-write_at _ _ _ _ _ from refl within)

pub returns-clause-full : goal.returns-clause-full
returns-clause-full c =
    let grown = c.in_ok-extend_from_slice.ensures.items in
    let pushed = c.in_ok-push.ensures.items in
    let from : c.len.result ≡ length c.args.self.now.pool.items = omega (arith, c.len.ensures, c.args.self.now.pool.ok) in
    let within = rw (sym c.len.ensures) at c.args.self.now.within in
    let full = rw (sym c.len.ensures) at c.requires.full in
    let long : vec_len c.extend_from_slice.new.self ≡ c.len.result + length c.args.bytes.now = cc (c.in_ok-extend_from_slice.ensures.len, c.len.ensures) in
    rw (grown, pushed) (full-write _ _ _ _ _ _ from refl within full long)
