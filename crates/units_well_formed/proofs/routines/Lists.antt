-- Lists of routines whose blocks are open or were read.
use Rattle.std.proofs.Common.{◌≡◌, ◌⊎◌, inl, inr, ℕ, zero, suc, ◌<◌, List, [], ◌∷◌, ◌++◌, length, map, Some, refl, sym, subst, ap, ◌∙◌, arith}
use Rattle.std.proofs.lemmas.List.{map-append, length-map}
use Rattle.std.specs.Prelude.{slice_get}
use Rattle.declarations_well_formed.specs.type_layout.declared.definitions.TypeId.{TypeId}
use Rattle.declarations_well_formed.specs.typed_tree.declared.units.Routine.{Routine}
use Rattle.declarations_well_formed.specs.tp_check_decl.routines.Drafts.{Done, Numbered, with_done, finishing}
use Rattle.declarations_well_formed.specs.well_formed.weakening.Weakening.{IsSame}
use Rattle.units_well_formed.specs.routines.Reading.{tree_of, Frame, with_locals, trees_of}

-- ---- variables of one routine

abbrev pub having : List TypeId → Routine → Routine
having locals one = record one { locals = locals }

pub get_with : (routines : List Routine) (number : ℕ) (locals : List TypeId) (one : Routine) → slice_get routines number ≡ Some one → slice_get (with_locals number locals routines) number ≡ Some (having locals one)
get_with [] zero locals one e = let bad : ⊥ = cc in absurd bad
get_with [] (suc number) locals one e = let bad : ⊥ = cc in absurd bad
get_with (first ∷ rest) zero locals one e =
    let same : first ≡ one = cc in
    ap (λ (r : Routine). Some (having locals r)) same
get_with (first ∷ rest) (suc number) locals one e = get_with rest number locals one e

pub get_other : (routines : List Routine) (number other : ℕ) (locals : List TypeId) → (number ≡ other → ⊥) → slice_get (with_locals number locals routines) other ≡ slice_get routines other
get_other [] number other locals apart = refl
get_other (first ∷ rest) zero zero locals apart = absurd (apart refl)
get_other (first ∷ rest) zero (suc other) locals apart = refl
get_other (first ∷ rest) (suc number) zero locals apart = refl
get_other (first ∷ rest) (suc number) (suc other) locals apart = get_other rest number other locals (λ e. apart (ap (λ (n : ℕ). suc n) e))

pub with_end : (routines : List Routine) (number : ℕ) (locals : List TypeId) (one : Routine) → number < length routines → with_locals number locals (routines ++ one ∷ []) ≡ with_locals number locals routines ++ one ∷ []
with_end [] number locals one h = absurd (omega (arith, h))
with_end (first ∷ rest) zero locals one h = refl
with_end (first ∷ rest) (suc number) locals one h =
    let below : number < length rest = omega (arith, h) in
    ap (λ (these : List Routine). first ∷ these) (with_end rest number locals one below)

pub with_length : (routines : List Routine) (number : ℕ) (locals : List TypeId) → length (with_locals number locals routines) ≡ length routines
with_length [] number locals = refl
with_length (first ∷ rest) zero locals = refl
with_length (first ∷ rest) (suc number) locals = ap (λ (n : ℕ). suc n) (with_length rest number locals)

pub with_swap : (routines : List Routine) (one other : ℕ) (locals others : List TypeId) → (one ≡ other → ⊥)
    → with_locals one locals (with_locals other others routines) ≡ with_locals other others (with_locals one locals routines)
with_swap [] one other locals others apart = refl
with_swap (first ∷ rest) zero zero locals others apart = absurd (apart refl)
with_swap (first ∷ rest) zero (suc other) locals others apart = refl
with_swap (first ∷ rest) (suc one) zero locals others apart = refl
with_swap (first ∷ rest) (suc one) (suc other) locals others apart =
    ap (λ (these : List Routine). first ∷ these) (with_swap rest one other locals others (λ e. apart (ap (λ (n : ℕ). suc n) e)))

pub same_itself : (one : Routine) → IsSame one one
same_itself one = record { header = refl; owner = refl; outer = refl; far = refl }

-- a routine is the same whatever its block has declared
pub get_same : (routines : List Routine) (number at : ℕ) (locals : List TypeId) (one : Routine) → slice_get routines at ≡ Some one
    → (other : Routine) × (slice_get (with_locals number locals routines) at ≡ Some other) × IsSame one other
get_same [] number zero locals one e = let bad : ⊥ = cc in absurd bad
get_same [] number (suc at) locals one e = let bad : ⊥ = cc in absurd bad
get_same (first ∷ rest) zero zero locals one e =
    let same : first ≡ one = cc in
    (having locals first, refl, subst (λ (r : Routine). IsSame r (having locals first)) same (record { header = refl; owner = refl; outer = refl; far = refl }))
get_same (first ∷ rest) (suc number) zero locals one e = (one, e, same_itself one)
get_same (first ∷ rest) zero (suc at) locals one e = (one, e, same_itself one)
get_same (first ∷ rest) (suc number) (suc at) locals one e = get_same rest number at locals one e

-- and the other way round
pub get_back : (routines : List Routine) (number at : ℕ) (locals : List TypeId) (one : Routine) → slice_get (with_locals number locals routines) at ≡ Some one
    → (other : Routine) × (slice_get routines at ≡ Some other) × IsSame other one
get_back [] zero zero locals one e = let bad : ⊥ = cc in absurd bad
get_back [] zero (suc at) locals one e = let bad : ⊥ = cc in absurd bad
get_back [] (suc number) zero locals one e = let bad : ⊥ = cc in absurd bad
get_back [] (suc number) (suc at) locals one e = let bad : ⊥ = cc in absurd bad
get_back (first ∷ rest) zero zero locals one e =
    let same : having locals first ≡ one = cc in
    (first, refl, subst (λ (r : Routine). IsSame first r) same (record { header = refl; owner = refl; outer = refl; far = refl }))
get_back (first ∷ rest) (suc number) zero locals one e = (one, e, same_itself one)
get_back (first ∷ rest) zero (suc at) locals one e = (one, e, same_itself one)
get_back (first ∷ rest) (suc number) (suc at) locals one e = get_back rest number at locals one e

-- ---- routines of a draft

abbrev pub plain_trees : List Numbered → List Routine
plain_trees routines = map tree_of routines

pub plain_at : (routines : List Numbered) (number : ℕ) (one : Numbered) → slice_get routines number ≡ Some one → slice_get (plain_trees routines) number ≡ Some (tree_of one)
plain_at [] zero one e = let bad : ⊥ = cc in absurd bad
plain_at [] (suc number) one e = let bad : ⊥ = cc in absurd bad
plain_at (first ∷ rest) zero one e =
    let same : first ≡ one = cc in
    ap (λ (n : Numbered). Some (tree_of n)) same
plain_at (first ∷ rest) (suc number) one e = plain_at rest number one e

pub plain_finished : (routines : List Numbered) (number : ℕ) (done : Done) → plain_trees (finishing number done routines) ≡ with_locals number done.locals (plain_trees routines)
plain_finished [] zero done = refl
plain_finished [] (suc number) done = refl
plain_finished (one ∷ rest) zero done = refl
plain_finished (one ∷ rest) (suc number) done = ap (λ (these : List Routine). tree_of one ∷ these) (plain_finished rest number done)

pub finished_length : (routines : List Numbered) (number : ℕ) (done : Done) → length (finishing number done routines) ≡ length routines
finished_length [] zero done = refl
finished_length [] (suc number) done = refl
finished_length (one ∷ rest) zero done = refl
finished_length (one ∷ rest) (suc number) done = ap (λ (n : ℕ). suc n) (finished_length rest number done)

-- a routine behind a block that was read, or the one that was read
pub finished_at : (routines : List Numbered) (number at : ℕ) (done : Done) (one : Numbered) → slice_get (finishing number done routines) at ≡ Some one
    → (slice_get routines at ≡ Some one) ⊎ ((first : Numbered) × (slice_get routines at ≡ Some first) × (one ≡ with_done done first) × (number ≡ at))
finished_at [] zero zero done one e = inl e
finished_at [] zero (suc at) done one e = inl e
finished_at [] (suc number) zero done one e = inl e
finished_at [] (suc number) (suc at) done one e = inl e
finished_at (first ∷ rest) zero zero done one e =
    let same : with_done done first ≡ one = cc in
    inr (first, refl, sym same, refl)
finished_at (first ∷ rest) zero (suc at) done one e = inl e
finished_at (first ∷ rest) (suc number) zero done one e = inl e
finished_at (first ∷ rest) (suc number) (suc at) done one e = by (finished_at rest number at done one e)
  where
    by : (slice_get rest at ≡ Some one) ⊎ ((other : Numbered) × (slice_get rest at ≡ Some other) × (one ≡ with_done done other) × (number ≡ at))
        → (slice_get rest at ≡ Some one) ⊎ ((other : Numbered) × (slice_get rest at ≡ Some other) × (one ≡ with_done done other) × (suc number ≡ suc at))
    by (inl f) = inl f
    by (inr f) = inr (f.0, f.1, f.2, ap (λ (n : ℕ). suc n) f.3)

-- and each was there
pub finished_kept : (routines : List Numbered) (number at : ℕ) (done : Done) (one : Numbered) → slice_get routines at ≡ Some one
    → (other : Numbered) × (slice_get (finishing number done routines) at ≡ Some other) × (other.first ≡ one.first)
finished_kept [] zero zero done one e = let bad : ⊥ = cc in absurd bad
finished_kept [] zero (suc at) done one e = let bad : ⊥ = cc in absurd bad
finished_kept [] (suc number) zero done one e = let bad : ⊥ = cc in absurd bad
finished_kept [] (suc number) (suc at) done one e = let bad : ⊥ = cc in absurd bad
finished_kept (first ∷ rest) zero zero done one e =
    let same : first ≡ one = cc in
    (with_done done first, refl, ap (λ (n : Numbered). n.first) same)
finished_kept (first ∷ rest) zero (suc at) done one e = (one, e, refl)
finished_kept (first ∷ rest) (suc number) zero done one e = (one, e, refl)
finished_kept (first ∷ rest) (suc number) (suc at) done one e = finished_kept rest number at done one e

-- ---- with the frames of open blocks

pub trees_length : (routines : List Numbered) (frames : List Frame) → length (trees_of routines frames) ≡ length routines
trees_length routines [] = length-map routines tree_of
trees_length routines (one ∷ frames) = with_length (trees_of routines frames) one.number one.locals ∙ trees_length routines frames

abbrev pub AreBelow : ℕ → List Frame → Type 0
AreBelow n [] = Unit {0}
AreBelow n (one ∷ frames) = (one.number < n) × AreBelow n frames

pub trees_end : (routines : List Numbered) (frames : List Frame) (one : Numbered) → AreBelow (length routines) frames → trees_of (routines ++ one ∷ []) frames ≡ trees_of routines frames ++ tree_of one ∷ []
trees_end routines [] one h = map-append tree_of routines (one ∷ [])
trees_end routines (first ∷ frames) one h =
    let below : first.number < length (trees_of routines frames) = subst (λ (n : ℕ). first.number < n) (sym (trees_length routines frames)) h.0 in
    ap (λ (these : List Routine). with_locals first.number first.locals these) (trees_end routines frames one h.1)
    ∙ with_end (trees_of routines frames) first.number first.locals (tree_of one) below

abbrev pub IsNone : ℕ → List Frame → Type 0
IsNone number [] = Unit {0}
IsNone number (one ∷ frames) = (one.number ≡ number → ⊥) × IsNone number frames

-- a routine whose block is not open
pub trees_apart : (routines : List Numbered) (frames : List Frame) (number : ℕ) → IsNone number frames → slice_get (trees_of routines frames) number ≡ slice_get (plain_trees routines) number
trees_apart routines [] number h = refl
trees_apart routines (one ∷ frames) number h = get_other (trees_of routines frames) one.number number one.locals h.0 ∙ trees_apart routines frames number h.1

-- a block that was read leaves the variables that it had
pub trees_finished : (routines : List Numbered) (frames : List Frame) (number : ℕ) (done : Done) → IsNone number frames
    → trees_of (finishing number done routines) frames ≡ with_locals number done.locals (trees_of routines frames)
trees_finished routines [] number done h = plain_finished routines number done
trees_finished routines (one ∷ frames) number done h =
    ap (λ (these : List Routine). with_locals one.number one.locals these) (trees_finished routines frames number done h.1)
    ∙ with_swap (trees_of routines frames) one.number number one.locals done.locals h.0

-- each routine of the draft by its first header
pub record IsFirst (one : Numbered) (tree : Routine) : Type 0 where
  pub header : tree.header ≡ one.first.header
  pub owner : tree.owner ≡ one.first.owner
  pub outer : tree.outer ≡ one.first.outer
  pub far : tree.far ≡ one.first.far

pub trees_at : (routines : List Numbered) (frames : List Frame) (number : ℕ) (one : Numbered) → slice_get routines number ≡ Some one
    → (tree : Routine) × (slice_get (trees_of routines frames) number ≡ Some tree) × IsFirst one tree
trees_at routines [] number one e = (tree_of one, plain_at routines number one e, record { header = refl; owner = refl; outer = refl; far = refl })
trees_at routines (first ∷ frames) number one e =
    let it = trees_at routines frames number one e in
    let next = get_same (trees_of routines frames) first.number number first.locals it.0 it.1 in (
      next.0,
      next.1,
      record {
        header = sym next.2.header ∙ it.2.header;
        owner = sym next.2.owner ∙ it.2.owner;
        outer = sym next.2.outer ∙ it.2.outer;
        far = sym next.2.far ∙ it.2.far;
      },
    )
