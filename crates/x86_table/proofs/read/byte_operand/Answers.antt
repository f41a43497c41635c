use Rattle.std.proofs.Common.{◌≡◌, ◌≢◌, ◌+◌, ◌*◌, ◌<◌, ℕ, List, [], ◌∷◌, ◌++◌, MatchOption, ap, arith}
use Rattle.x86_table.specs.declared.operand.ByteOperand.{ByteOperand}
use Rattle.x86_table.specs.declared.operand.ByteOperand.TheVariants as byte
use Rattle.x86_table.specs.Spelling.{memory_modrm, byte_modrm, byte_override}
use Rattle.x86_table.proofs.Unique.{place_code-lt, memory_unique}
use Rattle.x86_table.proofs.read.byte_operand.Goals as goal

pub returns-in_err-memory-clause-only : goal.returns-in_err-memory-clause-only
unfolding byte_modrm memory_modrm
returns-in_err-memory-clause-only c =
    λ o. elim o as (λ k. (field : ℕ) (rest : List ℕ) → field < 8 → byte_override k ≡ c.args.segment → c.args.bytes.now ≡ byte_modrm field k ++ rest → MatchOption c.from_residual-in_err-memory.result ⊥ (λ x. (x.0 ≡ k) × (x.1 ≡ field) × (x.2.now ≡ rest))) [ byte.Reg r ↦ λ field rest hf es e. absurd (grind arith) | byte.Mem m ↦ λ field rest hf es e. absurd (c.in_err-memory.ensures.only m field rest hf es e) ]

pub returns-clause-only : goal.returns-clause-only
unfolding byte_modrm memory_modrm
returns-clause-only c =
    λ o. elim o as (λ k. (field : ℕ) (rest : List ℕ) → field < 8 → byte_override k ≡ c.args.segment → c.args.bytes.now ≡ byte_modrm field k ++ rest → (byte.Mem c.in_ok-memory.memory ≡ k) × (c.in_ok-memory.field ≡ field) × (c.in_ok-memory.rest.now ≡ rest)) [ byte.Reg r ↦ λ field rest hf es e. absurd (grind arith) | byte.Mem m ↦ λ field rest hf es e. let h = c.in_ok-memory.ensures.only m field rest hf es e in (ap byte.Mem h.0, h.1, h.2) ]
