-- What is named in code that calls nothing.
use Rattle.std.proofs.Common.{◌≡◌, ℕ, zero, suc, ◌+◌, ◌≤◌, Bool, true, false, ◌&&◌, List, [], ◌∷◌, Option, Some, None, refl, subst, arith, eqb-true}
use Rattle.std.specs.Prelude.{nat_le, nat_lt, ◌==◌, MatchOption}
use Rattle.std.proofs.lemmas.Bool.{leb-true, ltb-true}
use Rattle.flat_code.specs.declared.tree.Address.{Address}
use Rattle.flat_code.specs.declared.tree.Address.TheVariants.{Global, Local, Outer, Through}
use Rattle.flat_code.specs.declared.tree.FlatResult.{FlatResult}
use Rattle.flat_code.specs.Tree.{Expr, Number, Byte, Word, AddressOf, SegmentOf, VmtOf, Op, Step, StoreByte, StoreWord, Copy, Leave, Call, CallThrough, Runtime, StoreRoutine, Return, Error, Code, End, Do, If, Loop}
use Rattle.flat_code.specs.Program.{Name, Key, Routine, FlatProgram, named}
use Rattle.flat_code.specs.Meaning.{activation_bytes}
use Rattle.flat_code.specs.Legal.{Mention, ToRoutine, ToDatum, ToVmt, Names, AddressNames, ExprNames, ExprsName, ResultNames, StepNames, CodeNames, IsThere, code_depth, RuntimeCalls}
use Rattle.flat_code.specs.leaf_routines.Leaves.{is_leaf_step, is_leaf, is_leaf_routine, IsLeaf}

both : (p q : Bool) → (p && q) ≡ true → (p ≡ true) × (q ≡ true)
both true q h = (refl, h)
both false q h = absurd cc

module _ (program : FlatProgram) (chain : Key → ℕ) (taken : ℕ) (key : Key) (own : Name) (names : List Name) where
  abbrev Calls : Mention → Type 0
  Calls mention = RuntimeCalls program chain taken key mention

  datum-named : (unit number : ℕ) → Names (IsThere program) ToDatum own names unit number → Names Calls ToDatum own names unit number
  datum-named unit number h = by (named own names unit) h
    where
      by : (o : Option Name) → MatchOption o ⊥ (λ name. IsThere program (ToDatum (record { unit = name; number = number }))) → MatchOption o ⊥ (λ name. RuntimeCalls program chain taken key (ToDatum (record { unit = name; number = number })))
      by None h = absurd h
      by (Some name) h = tt

  vmt-named : (unit number : ℕ) → Names (IsThere program) ToVmt own names unit number → Names Calls ToVmt own names unit number
  vmt-named unit number h = by (named own names unit) h
    where
      by : (o : Option Name) → MatchOption o ⊥ (λ name. IsThere program (ToVmt (record { unit = name; number = number }))) → MatchOption o ⊥ (λ name. RuntimeCalls program chain taken key (ToVmt (record { unit = name; number = number })))
      by None h = absurd h
      by (Some name) h = tt

  address-named : (at : Address) → AddressNames (IsThere program) own names at → AddressNames Calls own names at
  address-named (Global unit number plus) h = datum-named unit number h
  address-named (Local at) h = tt
  address-named (Outer levels at) h = tt
  address-named (Through slot plus) h = tt

  expr-named : (e : Expr) → ExprNames (IsThere program) own names e → ExprNames Calls own names e
  expr-named (Number n) h = tt
  expr-named (Byte at) h = address-named at h
  expr-named (Word at) h = address-named at h
  expr-named (AddressOf at) h = address-named at h
  expr-named (SegmentOf at) h = address-named at h
  expr-named (VmtOf unit number) h = vmt-named unit number h
  expr-named (Op op a b) h = (expr-named a h.0, expr-named b h.1)

  exprs-named : (es : List Expr) → ExprsName (IsThere program) own names es → ExprsName Calls own names es
  exprs-named [] h = tt
  exprs-named (e ∷ es) h = (expr-named e h.0, exprs-named es h.1)

  result-named : (result : Option FlatResult) → ResultNames (IsThere program) own names result → ResultNames Calls own names result
  result-named None h = tt
  result-named (Some result) h = address-named result.at h

  -- acts have the numbers 0 to 4
  act-named : (number : ℕ) (args : List Expr) (result : Option FlatResult) → nat_lt number 5 ≡ true → StepNames (IsThere program) own names (Runtime number args result) → StepNames Calls own names (Runtime number args result)
  act-named zero args result h s = (tt, exprs-named args s.1, result-named result s.2)
  act-named (suc zero) args result h s = (tt, exprs-named args s.1, result-named result s.2)
  act-named (suc (suc zero)) args result h s = (tt, exprs-named args s.1, result-named result s.2)
  act-named (suc (suc (suc zero))) args result h s = (tt, exprs-named args s.1, result-named result s.2)
  act-named (suc (suc (suc (suc zero)))) args result h s = (tt, exprs-named args s.1, result-named result s.2)
  act-named (suc (suc (suc (suc (suc n))))) args result h s = absurd (let b = ltb-true (5 + n) 5 (subst (λ k. nat_lt k 5 ≡ true) (omega arith) h) in omega (arith, b))

  step-named : (step : Step) → is_leaf_step step ≡ true → StepNames (IsThere program) own names step → StepNames Calls own names step
  step-named (StoreByte to value) l s = (address-named to s.0, expr-named value s.1)
  step-named (StoreWord to value) l s = (address-named to s.0, expr-named value s.1)
  step-named (Copy to from bytes) l s = (address-named to s.0, address-named from s.1)
  step-named (Leave loops) l s = tt
  step-named (Call unit number args result) l s = absurd cc
  step-named (CallThrough pointer args result) l s = absurd cc
  step-named (Runtime number args result) l s = act-named number args result l s
  step-named (StoreRoutine to unit number) l s = absurd cc
  step-named Return l s = tt
  step-named (Error code) l s = tt

  pub code-named : (code : Code) → is_leaf code ≡ true → CodeNames (IsThere program) own names code → CodeNames Calls own names code
  code-named End l c = tt
  code-named (Do step next) l c = let p = both (is_leaf_step step) (is_leaf next) l in (step-named step p.0 c.0, code-named next p.1 c.1)
  code-named (If test taken other next) l c =
      let p = both (is_leaf taken) (is_leaf other && is_leaf next) l in
      let q = both (is_leaf other) (is_leaf next) p.1 in
      (expr-named test c.0, code-named taken p.0 c.1, code-named other q.0 c.2, code-named next q.1 c.3)
  code-named (Loop body next) l c = let p = both (is_leaf body) (is_leaf next) l in (code-named body p.0 c.0, code-named next p.1 c.1)

pub leaf-is : (program : FlatProgram) (bytes : ℕ) (key : Key) (names : List Name) (r : Routine) → is_leaf_routine bytes r ≡ true → IsLeaf program bytes key names r
leaf-is program bytes key names r h =
    let p1 = both (r.frame == 0) _ h in
    let p2 = both (nat_le r.arguments 256) _ p1.1 in
    let p3 = both (nat_le (code_depth r.body) 24) _ p2.1 in
    let p4 = both (nat_le (activation_bytes r) bytes) (is_leaf r.body) p3.1 in
    record {
      frame = eqb-true r.frame 0 p1.0;
      arguments = leb-true r.arguments 256 p2.0;
      depth = leb-true (code_depth r.body) 24 p3.0;
      covers = leb-true (activation_bytes r) bytes p4.0;
      chains = λ chain taken there. code-named program chain taken key key.unit names r.body p4.1 there;
    }
