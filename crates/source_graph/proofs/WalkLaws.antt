-- A walk over uses goes on by one source, and comes to one end.
use Rattle.std.proofs.Common.{◌≡◌, ℕ, Bool, ◌||◌, List, [], ◌∷◌, ◌++◌, inl, inr, refl, sym, ap, ◌∙◌, subst, append_assoc, append-nil}
use Rattle.std.specs.List.{list_any}
use Rattle.type_layout.specs.Words.{same_bytes}
use Rattle.tp_outside.specs.Folder.{Folder}
use Rattle.tp_lexer.specs.declared.token.Text.{Text}
use Rattle.source_graph.specs.declared.error.GatherError.{GatherError}
use Rattle.source_graph.specs.declared.sources.Source.{Source}
use Rattle.source_graph.specs.declared.wanted.Wanted.{Wanted}
use Rattle.source_graph.specs.Sources.{IsRead, IsUnreadable, SpellsNothing, IsMisspelled, AreAlike}
use Rattle.source_graph.specs.Walk.{start, wanted_by, names_of, is_predeclared, is_passed, due, Walks, Gathers, Meets, IsRefused}
use Rattle.source_graph.proofs.SourceLaws.{read_once, read_or_unreadable, read_or_nothing, nothing_spelled, unreadable_once, unreadable_or_nothing, misspelled_alike as told_alike}

-- ---- what is popped from the front

module _ (held : Folder) where
  -- ---- one source more

  pub walks_on : (texts : List Text) (met all : List (List ℕ)) (wanted : List Wanted) (sources : List Source) (now : List Text) (next : Wanted) (others : List Wanted) (after : List Text) (source : Source) (left : List Wanted)
      → Walks held texts met wanted sources now (next ∷ others) → all ≡ met ++ names_of sources → IsRead held now next after source → due (all ++ source.name ∷ []) (wanted_by source ++ others) ≡ left → Walks held texts met wanted (sources ++ source ∷ []) after left
  walks_on texts met all wanted [] now next others after source left walk is read rest =
      let here : IsRead held texts next after source = subst (λ (t : List Text). IsRead held t next after source) (sym walk.0) read in
      let last : due (met ++ source.name ∷ []) (wanted_by source ++ others) ≡ left =
      subst (λ (m : List (List ℕ)). due (m ++ source.name ∷ []) (wanted_by source ++ others) ≡ left) (is ∙ append-nil met) rest in
      (next, others, after, walk.1, here, (refl, last))
  walks_on texts met all wanted (s ∷ sources) now next others after source left walk is read rest =
      let same : all ≡ (met ++ s.name ∷ []) ++ names_of sources = is ∙ sym (append_assoc met (s.name ∷ []) (names_of sources)) in
      (walk.0, walk.1, walk.2, walk.3, walk.4, walks_on walk.2 (met ++ s.name ∷ []) all (wanted_by s ++ walk.1) sources now next others after source left walk.5 same read rest)

  -- ---- one end

  -- what is due first, if there is anything, can't be read
  abbrev pub IsEnd : List Text → List Wanted → Type 0
  IsEnd texts [] = Unit {0}
  IsEnd texts (next ∷ others) = (after : List Text) (source : Source) → IsRead held texts next after source → ⊥

  walks_at : (texts now : List Text) (met names : List (List ℕ)) (wanted others : List Wanted) (sources : List Source) (after : List Text) (left : List Wanted)
      → texts ≡ now → met ≡ names → wanted ≡ others → Walks held now names others sources after left → Walks held texts met wanted sources after left
  walks_at texts now met names wanted others sources after left p q r walk =
      subst (λ (t : List Text). Walks held t met wanted sources after left) (sym p)
      (subst (λ (m : List (List ℕ)). Walks held now m wanted sources after left) (sym q)
      (subst (λ (w : List Wanted). Walks held now names w sources after left) (sym r) walk))

  ended : (texts now : List Text) (due left : List Wanted) (next : Wanted) (others : List Wanted) (after : List Text) (source : Source)
      → texts ≡ now → due ≡ left → due ≡ next ∷ others → IsRead held texts next after source → IsEnd now left → ⊥
  ended texts now due left next others after source p q r read end =
      let there : IsEnd texts (next ∷ others) = subst (λ (t : List Text). IsEnd t (next ∷ others)) (sym p) (subst (λ (l : List Wanted). IsEnd now l) (sym q ∙ r) end) in
      there after source read

  pub walks_once : (texts : List Text) (met : List (List ℕ)) (wanted : List Wanted) (xs ys : List Source) (a b : List Text) (l r : List Wanted)
      → Walks held texts met wanted xs a l → Walks held texts met wanted ys b r → IsEnd a l → IsEnd b r → (a ≡ b) × (l ≡ r)
  walks_once texts met wanted [] [] a b l r x y p q = (sym x.0 ∙ y.0, sym x.1 ∙ y.1)
  walks_once texts met wanted [] (t ∷ ys) a b l r x y p q = absurd (ended texts a (due met wanted) l y.0 y.1 y.2 t x.0 x.1 y.3 y.4 p)
  walks_once texts met wanted (s ∷ xs) [] a b l r x y p q = absurd (ended texts b (due met wanted) r x.0 x.1 x.2 s y.0 y.1 x.3 x.4 q)
  walks_once texts met wanted (s ∷ xs) (t ∷ ys) a b l r x y p q =
      let both : x.0 ∷ x.1 ≡ y.0 ∷ y.1 = sym x.3 ∙ y.3 in
      let next : x.0 ≡ y.0 = cc in
      let others : x.1 ≡ y.1 = cc in
      let read : IsRead held texts x.0 y.2 t = subst (λ (n : Wanted). IsRead held texts n y.2 t) (sym next) y.4 in
      let same = read_once held texts x.0 x.2 y.2 s t x.4 read in
      let names : met ++ s.name ∷ [] ≡ met ++ t.name ∷ [] = ap (λ (n : List ℕ). met ++ n ∷ []) same.1 in
      let rest : wanted_by s ++ x.1 ≡ wanted_by t ++ y.1 = ap (λ (w : List Wanted). w ++ x.1) same.2 ∙ ap (λ (w : List Wanted). wanted_by t ++ w) others in
      walks_once x.2 (met ++ s.name ∷ []) (wanted_by s ++ x.1) xs ys a b l r x.5
      (walks_at x.2 y.2 (met ++ s.name ∷ []) (met ++ t.name ∷ []) (wanted_by s ++ x.1) (wanted_by t ++ y.1) ys b r same.0 names rest y.5) p q

  -- ---- the answers exclude one another

  module _ (name : List ℕ) where
    abbrev Stops : (List Text → Wanted → Type 0) → Type 0
    Stops P = (texts : List Text) (next : Wanted) → P texts next → (after : List Text) (source : Source) → IsRead held texts next after source → ⊥

    unreadable_stops : (error : GatherError) → Stops (IsUnreadable held error)
    unreadable_stops error texts next p after source read = read_or_unreadable held texts next after source error read p

    nothing_stops : Stops (SpellsNothing held)
    nothing_stops texts next p after source read = read_or_nothing held texts next after source read p

    misspelled_stops : (error : GatherError) → Stops (IsMisspelled held error)
    misspelled_stops error texts next p after source read = read_or_nothing held texts next after source read (nothing_spelled held texts next error p)

    gathers_or_meets : (P : List Text → Wanted → Type 0) → Stops P → (texts : List Text) (sources : List Source) → Gathers held name texts sources → Meets held name P → ⊥
    gathers_or_meets P stops texts sources l r =
        let ends = walks_once [] [] (start name ∷ []) sources r.0 texts r.1 [] (r.2 ∷ r.3) l r.4 tt (stops r.1 r.2 r.5) in
        let no : [] ≡ r.2 ∷ r.3 = ends.1 in cc

    both_met : (P Q R : List Text → Wanted → Type 0) → Stops P → Stops Q → ((texts : List Text) (next : Wanted) → P texts next → Q texts next → R texts next) → Meets held name P → Meets held name Q → Meets held name R
    both_met P Q R p q f l r =
        let ends = walks_once [] [] (start name ∷ []) l.0 r.0 l.1 r.1 (l.2 ∷ l.3) (r.2 ∷ r.3) l.4 r.4 (p l.1 l.2 l.5) (q r.1 r.2 r.5) in
        let both : l.2 ∷ l.3 ≡ r.2 ∷ r.3 = ends.1 in
        let next : l.2 ≡ r.2 = cc in
        let there : Q l.1 l.2 = subst (λ (n : Wanted). Q l.1 n) (sym next) (subst (λ (t : List Text). Q t r.2) (sym ends.0) r.5) in
        (l.0, l.1, l.2, l.3, l.4, f l.1 l.2 l.5 there)

    pub gathers_or_refused : (error : GatherError) (texts : List Text) (sources : List Source) → Gathers held name texts sources → IsRefused held name error → ⊥
    gathers_or_refused error texts sources l (inl r) = gathers_or_meets (IsUnreadable held error) (unreadable_stops error) texts sources l r
    gathers_or_refused error texts sources l (inr r) = gathers_or_meets (IsMisspelled held error) (misspelled_stops error) texts sources l r

    pub gathers_or_nothing : (texts : List Text) (sources : List Source) → Gathers held name texts sources → Meets held name (SpellsNothing held) → ⊥
    gathers_or_nothing texts sources l r = gathers_or_meets (SpellsNothing held) nothing_stops texts sources l r

    pub refused_once : (x y : GatherError) → Meets held name (IsUnreadable held x) → IsRefused held name y → x ≡ y
    refused_once x y l (inl r) =
        (both_met (IsUnreadable held x) (IsUnreadable held y) (λ texts next. x ≡ y) (unreadable_stops x) (unreadable_stops y) (λ texts next p q. unreadable_once held texts next x y p q) l r).5
    refused_once x y l (inr r) =
        absurd ((both_met (IsUnreadable held x) (IsMisspelled held y) (λ texts next. ⊥) (unreadable_stops x) (misspelled_stops y) (λ texts next p q. unreadable_or_nothing held texts next x p (nothing_spelled held texts next y q)) l r).5)

    pub misspelled_once : (y : GatherError) → Meets held name (SpellsNothing held) → IsRefused held name y → Meets held name (IsMisspelled held y)
    misspelled_once y l (inl r) =
        absurd ((both_met (SpellsNothing held) (IsUnreadable held y) (λ texts next. ⊥) nothing_stops (unreadable_stops y) (λ texts next p q. unreadable_or_nothing held texts next y q p) l r).5)
    misspelled_once y l (inr r) = r

    pub misspelled_alike : (x y : GatherError) → Meets held name (IsMisspelled held x) → IsRefused held name y → AreAlike y x
    misspelled_alike x y l (inl r) =
        absurd ((both_met (IsMisspelled held x) (IsUnreadable held y) (λ texts next. ⊥) (misspelled_stops x) (unreadable_stops y) (λ texts next p q. unreadable_or_nothing held texts next y q (nothing_spelled held texts next x p)) l r).5)
    misspelled_alike x y l (inr r) =
        (both_met (IsMisspelled held x) (IsMisspelled held y) (λ texts next. AreAlike y x) (misspelled_stops x) (misspelled_stops y) (λ texts next p q. told_alike held texts next y x q p) l r).5

-- ---- what is passed over, as it is looked for

any_named : (name : List ℕ) (sources : List Source) → list_any (same_bytes name) (names_of sources) ≡ list_any (λ source. same_bytes name source.name) sources
any_named name [] = refl
any_named name (s ∷ sources) = ap (λ (b : Bool). same_bytes name s.name || b) (any_named name sources)

pub passed_by : (wanted : Wanted) (sources : List Source) (met : Bool) → met ≡ list_any (λ source. same_bytes wanted.name source.name) sources → (met || is_predeclared wanted.place wanted.name) ≡ is_passed (names_of sources) wanted
passed_by wanted sources met is = ap (λ (b : Bool). b || is_predeclared wanted.place wanted.name) (is ∙ sym (any_named wanted.name sources))
