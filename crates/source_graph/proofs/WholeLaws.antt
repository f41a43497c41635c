-- What holds of the sources that a walk meets.
use Rattle.std.proofs.Common.{◌≡◌, ℕ, ◌≤◌, Bool, true, false, cond, ◌||◌, List, [], ◌∷◌, ◌++◌, length, Option, Some, None, Result, Ok, Err, Contains, refl, sym, ap, ◌∙◌, subst, append_assoc, append-nil, arith}
use Rattle.std.specs.List.{All, list_any}
use Rattle.std.proofs.lemmas.List.Elements.{All-nil, All-cons, All-head, All-tail, All-push, All-append, All-weaker, All-contains, Contains-append_left, Contains-append_right, All-contains_itself}
use Rattle.std.proofs.lemmas.List.Folds.{list_any-append}
use Rattle.std.proofs.lemmas.Slice.Eq.{bytes_eq-Decides}
use Rattle.type_layout.specs.Words.{same_bytes}
use Rattle.tp_outside.specs.Folder.{Folder}
use Rattle.tp_lexer.specs.declared.token.Text.{Text}
use Rattle.source_graph.specs.declared.error.GatherError.{GatherError}
use Rattle.source_graph.specs.declared.sources.Source.{Source}
use Rattle.source_graph.specs.declared.wanted.Wanted.{Wanted}
use Rattle.source_graph.specs.Texts.{bytes_in, number_of, leads_out, with_text, with_file}
use Rattle.source_graph.specs.Files.{source_file, absent, numbered, opened_by, Includes}
use Rattle.source_graph.specs.Sources.{IsRead}
use Rattle.source_graph.specs.Walk.{start, wanted_by, names_of, is_predeclared, is_passed, due, Walks}
use Rattle.source_graph.specs.Whole.{IsFile, IsInside, AreWanted, AreNew, IsWholeLaw}
use Rattle.source_graph.proofs.TextLaws.{bytes_in-push, with_text_is, with_file_is}

-- ---- texts

module _ (held : Folder) where
  abbrev Kept : List Text → Type 0
  Kept texts = All (IsFile held) texts × All IsInside texts × (bytes_in texts ≤ 16777216)

  text_kept : (texts more : List Text) (name bytes : List ℕ) → held name ≡ Some bytes → leads_out name ≡ false → Kept texts → with_text texts name bytes ≡ Ok more → Kept more
  text_kept texts more name bytes file inside kept is =
      let made = with_text_is texts name bytes more is in
      let text : Text = record { name = name; bytes = bytes } in
      let sum_is = bytes_in-push texts text in
      let all : Kept (texts ++ text ∷ []) = (All-push (IsFile held) texts text kept.0 file, All-push IsInside texts text kept.1 inside, omega arith) in
      subst Kept (sym made.0) all

  file_kept : (error : GatherError) (texts more : List Text) (name : List ℕ) (found : Option (List ℕ)) → held name ≡ found → Kept texts → with_file error texts name found ≡ Ok more → Kept more
  file_kept error texts more name found file kept is =
      let put = with_file_is error texts more name found is in
      text_kept texts more name put.bytes (file ∙ put.found_is) put.inside kept put.put

  includes_kept : (main : ℕ) (first : List Text) (names : List (List ℕ)) (after : List Text) → Includes held main first names after → Kept first → Kept after
  includes_kept main first [] after same kept = subst Kept same kept
  includes_kept main first (name ∷ names) after steps kept =
      includes_kept main steps.0 names after steps.3 (file_kept _ first steps.0 name (held name) refl kept steps.2)

  numbered_kept : (texts first : List Text) (number main : ℕ) (more : Result (List Text) GatherError) → ((now : List Text) → more ≡ Ok now → Kept now) → numbered number more ≡ Ok (first, main) → Kept first
  numbered_kept texts first number main (Ok now) keeps is =
      let x : List Text × ℕ = (now, number) in
      let y : List Text × ℕ = (first, main) in
      let same : x ≡ y = cc in
      subst Kept (ap (λ (v : List Text × ℕ). v.0) same) (keeps now refl)
  numbered_kept texts first number main (Err error) keeps is = absurd cc

  opened_kept : (texts first : List Text) (main : ℕ) (found : Option ℕ) (more : Result (List Text) GatherError) → ((now : List Text) → more ≡ Ok now → Kept now) → Kept texts → opened_by found texts more ≡ Ok (first, main) → Kept first
  opened_kept texts first main (Some number) more keeps kept is =
      let x : List Text × ℕ = (texts, number) in
      let y : List Text × ℕ = (first, main) in
      let same : x ≡ y = cc in
      subst Kept (ap (λ (v : List Text × ℕ). v.0) same) kept
  opened_kept texts first main None more keeps kept is = numbered_kept texts first (length texts) main more keeps is

  read_kept : (texts after : List Text) (unit : Wanted) (source : Source) → IsRead held texts unit after source → Kept texts → Kept after
  read_kept texts after unit source read kept =
      let lexed = read.lexed in
      let file = source_file unit.name in
      let opens : Kept lexed.first = opened_kept texts lexed.first source.text (number_of texts file) (with_file (absent texts unit) texts file (held file)) (λ now is. file_kept (absent texts unit) texts now file (held file) refl kept is) kept lexed.opens in
      includes_kept source.text lexed.first lexed.comes.names after lexed.comes.includes opens

  walks_kept : (texts : List Text) (met : List (List ℕ)) (wanted : List Wanted) (sources : List Source) (after : List Text) (left : List Wanted) → Walks held texts met wanted sources after left → Kept texts → Kept after
  walks_kept texts met wanted [] after left walk kept = subst Kept walk.0 kept
  walks_kept texts met wanted (s ∷ sources) after left walk kept =
      walks_kept walk.2 (met ++ s.name ∷ []) (wanted_by s ++ walk.1) sources after left walk.5 (read_kept texts walk.2 walk.0 s walk.4 kept)

-- ---- what is due

abbrev Passed : List (List ℕ) → Wanted → Type 0
Passed met unit = is_passed met unit ≡ true

module _ (met : List (List ℕ)) (P : Wanted → Type 0) (passed : (unit : Wanted) → Passed met unit → P unit) where
  none_due : (wanted : List Wanted) → due met wanted ≡ [] → All P wanted
  none_due [] is = All-nil P
  none_due (unit ∷ wanted) is = by (is_passed met unit) refl is (λ e. none_due wanted e)
    where
      by : (b : Bool) → is_passed met unit ≡ b → cond b (due met wanted) (unit ∷ wanted) ≡ [] → (due met wanted ≡ [] → All P wanted) → All P (unit ∷ wanted)
      by true is_true e again = All-cons P unit wanted (passed unit is_true) (again e)
      by false is_false e again = absurd (cc e)

  all_due : (wanted : List Wanted) (next : Wanted) (others : List Wanted) → due met wanted ≡ next ∷ others → P next → All P others → All P wanted
  all_due [] next others is p rest = absurd cc
  all_due (unit ∷ wanted) next others is p rest = by (is_passed met unit) refl is (λ e. all_due wanted next others e p rest)
    where
      by : (b : Bool) → is_passed met unit ≡ b → cond b (due met wanted) (unit ∷ wanted) ≡ next ∷ others → (due met wanted ≡ next ∷ others → All P wanted) → All P (unit ∷ wanted)
      by true is_true e again = All-cons P unit wanted (passed unit is_true) (again e)
      by false is_false e again =
          let first : unit ≡ next = cc in
          let behind : wanted ≡ others = cc in
          All-cons P unit wanted (subst P (sym first) p) (subst (λ (w : List Wanted). All P w) (sym behind) rest)

-- what is due first was not met
next_new : (met : List (List ℕ)) (wanted : List Wanted) (next : Wanted) (others : List Wanted) → due met wanted ≡ next ∷ others → is_passed met next ≡ false
next_new met [] next others is = absurd cc
next_new met (unit ∷ wanted) next others is = by (is_passed met unit) refl is (λ e. next_new met wanted next others e)
  where
    by : (b : Bool) → is_passed met unit ≡ b → cond b (due met wanted) (unit ∷ wanted) ≡ next ∷ others → (due met wanted ≡ next ∷ others → is_passed met next ≡ false) → is_passed met next ≡ false
    by true is_true e again = again e
    by false is_false e again = let first : unit ≡ next = cc in subst (λ (u : Wanted). is_passed met u ≡ false) first is_false

-- what is due stands among what is wanted
due_wanted : (met : List (List ℕ)) (wanted : List Wanted) (Q : Wanted → Type 0) (next : Wanted) (others : List Wanted) → due met wanted ≡ next ∷ others → All Q wanted → Q next × All Q others
due_wanted met [] Q next others is all = absurd cc
due_wanted met (unit ∷ wanted) Q next others is all = by (is_passed met unit) is (λ e. due_wanted met wanted Q next others e (All-tail Q unit wanted all))
  where
    by : (b : Bool) → cond b (due met wanted) (unit ∷ wanted) ≡ next ∷ others → (due met wanted ≡ next ∷ others → Q next × All Q others) → Q next × All Q others
    by true e again = again e
    by false e again =
        let first : unit ≡ next = cc in
        let behind : wanted ≡ others = cc in
        (subst Q first (All-head Q unit wanted all), subst (λ (w : List Wanted). All Q w) behind (All-tail Q unit wanted all))

or_left : (a b : Bool) → (a || b) ≡ false → a ≡ false
or_left true b is = is
or_left false b is = refl

or_more : (a b c : Bool) → (a || c) ≡ true → ((a || b) || c) ≡ true
or_more true b c is = refl
or_more false true c is = refl
or_more false false c is = is

or_true : (a : Bool) → (a || true) ≡ true
or_true true = refl
or_true false = refl

or_first : (a b : Bool) → a ≡ true → (a || b) ≡ true
or_first a b is = ap (λ (x : Bool). x || b) is

passed_more : (met more : List (List ℕ)) (unit : Wanted) → Passed met unit → Passed (met ++ more) unit
passed_more met more unit is =
    ap (λ (b : Bool). b || is_predeclared unit.place unit.name) (list_any-append (same_bytes unit.name) met more)
    ∙ or_more (list_any (same_bytes unit.name) met) (list_any (same_bytes unit.name) more) (is_predeclared unit.place unit.name) is

same_is : (name : List ℕ) → same_bytes name name ≡ true
same_is name = (bytes_eq-Decides name name).1 refl

-- a source that was met is passed over
met_passed : (met more : List (List ℕ)) (unit : Wanted) (name : List ℕ) → name ≡ unit.name → Passed (met ++ name ∷ more) unit
met_passed met more unit name same =
    let here : list_any (same_bytes unit.name) (name ∷ more) ≡ true =
    or_first (same_bytes unit.name name) (list_any (same_bytes unit.name) more) (subst (λ (n : List ℕ). same_bytes unit.name n ≡ true) (sym same) (same_is unit.name)) in
    ap (λ (b : Bool). b || is_predeclared unit.place unit.name)
    (list_any-append (same_bytes unit.name) met (name ∷ more) ∙ ap (λ (b : Bool). list_any (same_bytes unit.name) met || b) here ∙ or_true (list_any (same_bytes unit.name) met))

-- ---- sources

module _ (held : Folder) where
  abbrev There : List (List ℕ) → List Wanted → Type 0
  There all wanted = All (Passed all) wanted

  -- all that is wanted is met at the end, and all that the sources use
  walks_there : (texts : List Text) (met all : List (List ℕ)) (wanted : List Wanted) (sources : List Source) (after : List Text) → Walks held texts met wanted sources after [] → all ≡ met ++ names_of sources → There all wanted × All (λ source. There all (wanted_by source)) sources
  walks_there texts met all wanted [] after walk is =
      let same : all ≡ met = is ∙ append-nil met in
      (none_due met (Passed all) (λ unit passed. subst (λ (m : List (List ℕ)). Passed m unit) (sym same) passed) wanted walk.1, All-nil (λ source. There all (wanted_by source)))
  walks_there texts met all wanted (s ∷ sources) after walk is =
      let on : all ≡ (met ++ s.name ∷ []) ++ names_of sources = is ∙ sym (append_assoc met (s.name ∷ []) (names_of sources)) in
      let rest = walks_there walk.2 (met ++ s.name ∷ []) all (wanted_by s ++ walk.1) sources after walk.5 on in
      let uses : There all (wanted_by s) = All-weaker (Contains (wanted_by s)) (Passed all) (λ unit c. All-contains (Passed all) (wanted_by s ++ walk.1) unit rest.0 (Contains-append_left (wanted_by s) walk.1 unit c)) (wanted_by s) (All-contains_itself (wanted_by s)) in
      let others : There all walk.1 = All-weaker (Contains walk.1) (Passed all) (λ unit c. All-contains (Passed all) (wanted_by s ++ walk.1) unit rest.0 (Contains-append_right (wanted_by s) walk.1 unit c)) walk.1 (All-contains_itself walk.1) in
      let next : Passed all walk.0 = subst (λ (m : List (List ℕ)). Passed m walk.0) (sym is) (met_passed met (names_of sources) walk.0 s.name walk.4.named) in
      let known : (unit : Wanted) → Passed met unit → Passed all unit = λ unit passed. subst (λ (m : List (List ℕ)). Passed m unit) (sym is) (passed_more met (s.name ∷ names_of sources) unit passed) in
      (all_due met (Passed all) known wanted walk.0 walk.1 walk.3 next others, All-cons (λ source. There all (wanted_by source)) s sources uses rest.1)

  walks_new : (texts : List Text) (met : List (List ℕ)) (wanted : List Wanted) (sources : List Source) (after : List Text) (left : List Wanted) → Walks held texts met wanted sources after left → AreNew met sources
  walks_new texts met wanted [] after left walk = tt
  walks_new texts met wanted (s ∷ sources) after left walk =
      let new : list_any (same_bytes walk.0.name) met ≡ false = or_left (list_any (same_bytes walk.0.name) met) (is_predeclared walk.0.place walk.0.name) (next_new met wanted walk.0 walk.1 walk.3) in
      (subst (λ (n : List ℕ). list_any (same_bytes n) met ≡ false) (sym walk.4.named) new, walks_new walk.2 (met ++ s.name ∷ []) (wanted_by s ++ walk.1) sources after left walk.5)

  walks_wanted : (texts : List Text) (met : List (List ℕ)) (all wanted : List Wanted) (sources : List Source) (after : List Text) (left : List Wanted) → Walks held texts met wanted sources after left → All (Contains all) wanted → AreWanted all sources
  walks_wanted texts met all wanted [] after left walk among = tt
  walks_wanted texts met all wanted (s ∷ sources) after left walk among =
      let due_among = due_wanted met wanted (Contains all) walk.0 walk.1 walk.3 among in
      let others : All (Contains (all ++ wanted_by s)) walk.1 = All-weaker (Contains all) (Contains (all ++ wanted_by s)) (λ unit c. Contains-append_left all (wanted_by s) unit c) walk.1 due_among.1 in
      let uses : All (Contains (all ++ wanted_by s)) (wanted_by s) = All-weaker (Contains (wanted_by s)) (Contains (all ++ wanted_by s)) (λ unit c. Contains-append_right all (wanted_by s) unit c) (wanted_by s) (All-contains_itself (wanted_by s)) in
      (walk.0, due_among.0, sym walk.4.named, walks_wanted walk.2 (met ++ s.name ∷ []) (all ++ wanted_by s) (wanted_by s ++ walk.1) sources after left walk.5 (All-append (Contains (all ++ wanted_by s)) (wanted_by s) walk.1 uses others))

pub is_whole : IsWholeLaw
is_whole held name texts sources walk =
    let kept = walks_kept held [] [] (start name ∷ []) sources texts [] walk (All-nil (IsFile held), All-nil IsInside, omega arith) in
    let there = walks_there held [] [] (names_of sources) (start name ∷ []) sources texts walk refl in
    record {
      files = kept.0;
      inside = kept.1;
      small = kept.2;
      program = there.0;
      used = there.1;
      wanted = walks_wanted held [] [] (start name ∷ []) (start name ∷ []) sources texts [] walk (All-contains_itself (start name ∷ []));
      once = walks_new held [] [] (start name ∷ []) sources texts [] walk;
    }
