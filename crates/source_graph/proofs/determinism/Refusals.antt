-- The sources of a program are refused in one way.
use Rattle.std.proofs.Common.{◌≡◌, inl, inr, refl, sym, subst}
use Rattle.source_graph.specs.declared.error.GatherError.{GatherError}
use Rattle.source_graph.specs.declared.error.GatherError.TheVariants as refusal
use Rattle.source_graph.specs.Sources.{AreAlike}
use Rattle.source_graph.proofs.WalkLaws.{refused_once, misspelled_alike}
use Rattle.source_graph.specs.determinism.Laws.{OneRefusal}

like_itself : (error : GatherError) → AreAlike error error
like_itself refusal.FilesFault = tt
like_itself refusal.NoMemory = tt
like_itself (refusal.NotInProfile at feature) = refl
like_itself error = refl

alike : (one other : GatherError) → one ≡ other → AreAlike one other
alike one other same = subst (λ (error : GatherError). AreAlike one error) same (like_itself one)

pub one_refusal : OneRefusal
one_refusal held name one other (inl l) r = alike one other (refused_once held name one other l r)
one_refusal held name one other (inr l) (inl r) = alike one other (sym (refused_once held name other one r (inr l)))
one_refusal held name one other (inr l) (inr r) = misspelled_alike held name other one r (inr l)
