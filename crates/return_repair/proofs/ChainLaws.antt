-- The chain of links, one link at a time.
use Rattle.std.proofs.Common.{◌≡◌, ◌≢◌, ◌⊎◌, inl, inr, ℕ, zero, suc, ◌+◌, ◌-◌, ◌*◌, ◌%◌, ◌<◌, ◌≤◌, Bool, true, false, cond, eqb, ltb, List, [], ◌∷◌, ◌++◌, length, Result, Ok, Err, refl, sym, ap, subst, ◌∙◌, arith}
use Rattle.std.specs.Prelude.{is_ok, IsOk, IsTrue, ◌==◌, ◌||◌, ◌&&◌, nat_lt, nat_le}
use Rattle.std.specs.List.{AllByRecursion}
use Rattle.std.proofs.lemmas.Bool.Decides.{nat_tests}
use Rattle.std.proofs.lemmas.Bool.{ltb-true, eqb-true}
use Rattle.cpu_8086.specs.Memory.{load_word}
use Rattle.frame_links.specs.Links.{Link, link_word, room_of, room_before}
use Rattle.return_repair.specs.Chain.{before, word_at, next_link, link_at, goes_on, links_within, chain, links_of, room_end, are_spaced}

-- how far a link is below the segment's end, and 0 itself at the end of the chain
abbrev pub height : ℕ → ℕ
height link = cond (eqb link 0) 0 (65536 - link)

pub height-falls : (link next : ℕ) → 0 < link → link < 65536 → next < 65536 → IsTrue (goes_on link next) → height next < height link
height-falls link next some small fits on = by (next == 0) (nat_lt link next) refl refl on
  where
    by : (last rises : Bool) → (next == 0) ≡ last → nat_lt link next ≡ rises → (last || rises) ≡ true → height next < height link
    by true rises is_last is_rising on = rw is_last (grind (arith, nat_tests))
    by false true is_last is_rising on = let above : link < next = ltb-true link next is_rising in grind (arith, nat_tests)
    by false false is_last is_rising on = absurd cc

-- a sound chain is that of its links
pub ok_links : (r : Result (List Link) ℕ) → IsOk r → r ≡ Ok (links_of r)
ok_links (Ok links) sound = refl
ok_links (Err bad) sound = absurd cc

first_links : (first : Link) (others links : List Link) (link : Link) → first ∷ others ≡ link ∷ links → (first ≡ link) × (others ≡ links)
first_links first others links link same = (cc, cc)

next_fits : (marked : Bool) (word : ℕ) → word < 65536 → (link_word marked word).next < 65536
next_fits true word fits = omega arith
next_fits false word fits = fits

module _ (marked : Bool) where
  pub next_small : (memory : List ℕ) (ss link : ℕ) → next_link marked memory ss link < 65536
  next_small memory ss link = next_fits marked (load_word memory ss link % 65536) (omega arith)

  -- at 0 the chain ends, whatever is left
  ends : (n : ℕ) (memory : List ℕ) (ss : ℕ) → links_within marked n memory ss 0 ≡ Ok []
  unfolding links_within
  ends zero memory ss = refl
  ends (suc n) memory ss = refl

  -- one link, and those behind it
  one_more : (n : ℕ) (memory : List ℕ) (ss link : ℕ) → 0 < link → links_within marked (suc n) memory ss link ≡ cond (goes_on link (next_link marked memory ss link)) (before (link_at marked memory ss link) (links_within marked n memory ss (next_link marked memory ss link))) (Err link)
  unfolding links_within
  one_more n memory ss link some = let is_not : (link == 0) ≡ false = grind (arith, nat_tests) in rw is_not refl

  -- enough links are enough
  enough : (n m : ℕ) (memory : List ℕ) (ss link : ℕ) → 0 < link → link < 65536 → 65536 ≤ n + link → 65536 ≤ m + link → links_within marked n memory ss link ≡ links_within marked m memory ss link
  enough zero m memory ss link some small first second = absurd (omega arith)
  enough (suc n) zero memory ss link some small first second = absurd (omega arith)
  enough (suc n) (suc m) memory ss link some small first second =
      one_more n memory ss link some
      ∙ by (next_link marked memory ss link) (next_link marked memory ss link == 0) (nat_lt link (next_link marked memory ss link)) refl refl (next_small memory ss link) (λ next above fits. enough n m memory ss next (omega arith) fits (omega arith) (omega arith))
      ∙ sym (one_more m memory ss link some)
    where
      by : (next : ℕ) (last rises : Bool) → (next == 0) ≡ last → nat_lt link next ≡ rises → next < 65536 → ((next : ℕ) → link < next → next < 65536 → links_within marked n memory ss next ≡ links_within marked m memory ss next) → cond (goes_on link next) (before (link_at marked memory ss link) (links_within marked n memory ss next)) (Err link) ≡ cond (goes_on link next) (before (link_at marked memory ss link) (links_within marked m memory ss next)) (Err link)
      by next true rises is_last is_rising fits again =
          let zero_is : next ≡ 0 = eqb-true next 0 is_last in
          let both : links_within marked n memory ss next ≡ links_within marked m memory ss next = rw zero_is (ends n memory ss ∙ sym (ends m memory ss)) in
          ap (λ others. cond (goes_on link next) (before (link_at marked memory ss link) others) (Err link)) both
      by next false true is_last is_rising fits again =
          let above : link < next = ltb-true link next is_rising in
          ap (λ others. cond (goes_on link next) (before (link_at marked memory ss link) others) (Err link)) (again next above fits)
      by next false false is_last is_rising fits again = rw (is_last, is_rising) refl

  chain_is : (memory : List ℕ) (ss link : ℕ) → chain marked memory ss link ≡ links_within marked 65536 memory ss link
  unfolding chain
  chain_is memory ss link = refl

  pub chain-end : (memory : List ℕ) (ss : ℕ) → chain marked memory ss 0 ≡ Ok []
  chain-end memory ss = chain_is memory ss 0 ∙ ends 65536 memory ss

  -- one step of the chain
  pub chain-step : (memory : List ℕ) (ss link : ℕ) → 0 < link → link < 65536 → chain marked memory ss link ≡ cond (goes_on link (next_link marked memory ss link)) (before (link_at marked memory ss link) (chain marked memory ss (next_link marked memory ss link))) (Err link)
  chain-step memory ss link some small =
      let P : ℕ → Type 0 = λ most. links_within marked most memory ss link ≡ cond (goes_on link (next_link marked memory ss link)) (before (link_at marked memory ss link) (links_within marked 65535 memory ss (next_link marked memory ss link))) (Err link) in
      let most : suc 65535 ≡ 65536 = refl in
      chain_is memory ss link ∙ subst P most (one_more 65535 memory ss link some)
      ∙ by (next_link marked memory ss link) (next_link marked memory ss link == 0) (nat_lt link (next_link marked memory ss link)) refl refl (next_small memory ss link)
    where
      by : (next : ℕ) (last rises : Bool) → (next == 0) ≡ last → nat_lt link next ≡ rises → next < 65536 → cond (goes_on link next) (before (link_at marked memory ss link) (links_within marked 65535 memory ss next)) (Err link) ≡ cond (goes_on link next) (before (link_at marked memory ss link) (chain marked memory ss next)) (Err link)
      by next true rises is_last is_rising fits =
          let zero_is : next ≡ 0 = eqb-true next 0 is_last in
          let both : links_within marked 65535 memory ss next ≡ chain marked memory ss next = rw zero_is (ends 65535 memory ss ∙ sym (chain-end memory ss)) in
          ap (λ others. cond (goes_on link next) (before (link_at marked memory ss link) others) (Err link)) both
      by next false true is_last is_rising fits =
          let above : link < next = ltb-true link next is_rising in
          ap (λ others. cond (goes_on link next) (before (link_at marked memory ss link) others) (Err link)) (enough 65535 65536 memory ss next (omega arith) fits (omega arith) (omega arith) ∙ sym (chain_is memory ss next))
      by next false false is_last is_rising fits = rw (is_last, is_rising) refl

  -- a link that goes on, and one that doesn't
  pub chain-on : (memory : List ℕ) (ss link next : ℕ) → 0 < link → link < 65536 → next ≡ next_link marked memory ss link → IsTrue (goes_on link next) → chain marked memory ss link ≡ before (link_at marked memory ss link) (chain marked memory ss next)
  chain-on memory ss link next some small is on = chain-step memory ss link some small ∙ rw (← is, on) refl

  pub chain-bad : (memory : List ℕ) (ss link next : ℕ) → 0 < link → link < 65536 → next ≡ next_link marked memory ss link → goes_on link next ≡ false → chain marked memory ss link ≡ Err link
  chain-bad memory ss link next some small is bad = chain-step memory ss link some small ∙ rw (← is, bad) refl

  -- a sound chain has a first link, and goes on soundly
  pub record FirstLink (memory : List ℕ) (ss link next : ℕ) : Type 0 where
    pub on : IsTrue (goes_on link next)
    pub sound : IsOk (chain marked memory ss next)
    pub links : links_of (chain marked memory ss link) ≡ link_at marked memory ss link ∷ links_of (chain marked memory ss next)

  pub first_link : (memory : List ℕ) (ss link next : ℕ) → 0 < link → link < 65536 → next ≡ next_link marked memory ss link → IsOk (chain marked memory ss link) → FirstLink memory ss link next
  first_link memory ss link next some small is sound = by (goes_on link next) refl (chain marked memory ss next) refl
    where
      by : (on : Bool) → goes_on link next ≡ on → (others : Result (List Link) ℕ) → chain marked memory ss next ≡ others → FirstLink memory ss link next
      by false off others others_are = absurd (let nowhere = ap is_ok (chain-bad memory ss link next some small is off) in cc)
      by true on (Ok links) others_are =
          let step = chain-on memory ss link next some small is on in
          record {
            on = on;
            sound = ap is_ok others_are;
            links = ap links_of (step ∙ ap (before (link_at marked memory ss link)) others_are) ∙ ap (λ r. link_at marked memory ss link ∷ links_of r) (sym others_are);
          }
      by true on (Err bad) others_are = absurd (let nowhere = ap is_ok (chain-on memory ss link next some small is on ∙ ap (before (link_at marked memory ss link)) others_are) in cc)

  -- sound after one link more
  pub sound-on : (memory : List ℕ) (ss link next : ℕ) → 0 < link → link < 65536 → next ≡ next_link marked memory ss link → IsTrue (goes_on link next) → IsOk (chain marked memory ss next) → IsOk (chain marked memory ss link)
  sound-on memory ss link next some small is on sound = subst (λ r. IsOk r) (sym (chain-on memory ss link next some small is on)) (by (chain marked memory ss next) sound)
    where
      by : (others : Result (List Link) ℕ) → IsOk others → IsOk (before (link_at marked memory ss link) others)
      by (Ok links) sound = refl
      by (Err bad) sound = absurd cc

  pub bad-on : (memory : List ℕ) (ss link next bad : ℕ) → 0 < link → link < 65536 → next ≡ next_link marked memory ss link → IsTrue (goes_on link next) → chain marked memory ss next ≡ Err bad → chain marked memory ss link ≡ Err bad
  bad-on memory ss link next bad some small is on bad_there = chain-on memory ss link next some small is on ∙ ap (before (link_at marked memory ss link)) bad_there

  -- whether links are spaced, link by link
  pub spaced-step : (memory : List ℕ) (ss link next : ℕ) → next < 65536 → FirstLink memory ss link next
      → are_spaced (links_of (chain marked memory ss link)) ≡ (nat_le (link + room_of (word_at marked memory ss link).far) (room_end next) && are_spaced (links_of (chain marked memory ss next)))
  spaced-step memory ss link next fits first = ap are_spaced first.links ∙ ap (λ (end : ℕ). nat_le (link + room_of (word_at marked memory ss link).far) end && are_spaced (links_of (chain marked memory ss next))) (room (next == 0) refl)
    where
      room : (last : Bool) → (next == 0) ≡ last → room_before (links_of (chain marked memory ss next)) ≡ cond last 65536 next
      room true is_last = let zero_is : next ≡ 0 = eqb-true next 0 is_last in rw (zero_is, chain-end memory ss) refl
      room false is_last =
          let some : 0 < next = grind (arith, nat_tests) in
          ap room_before (first_link memory ss next (next_link marked memory ss next) some fits refl first.sound).links

  -- memory in which the words of the links are as they were has the same chain
  pub chain-kept : (memory earlier : List ℕ) (ss link : ℕ) (links : List Link) → link < 65536 → chain marked earlier ss link ≡ Ok links
      → AllByRecursion (λ (link : Link). load_word memory ss link.at ≡ load_word earlier ss link.at) links → chain marked memory ss link ≡ Ok links
  chain-kept memory earlier ss link [] small was kept = by (link == 0) refl
    where
      by : (last : Bool) → (link == 0) ≡ last → chain marked memory ss link ≡ Ok []
      by true is_last = let zero_is : link ≡ 0 = eqb-true link 0 is_last in rw zero_is (chain-end memory ss)
      by false is_last =
          let some : 0 < link = grind (arith, nat_tests) in
          let first = first_link earlier ss link (next_link marked earlier ss link) some small refl (ap is_ok was) in
          let nothing = ap links_of was in
          absurd cc
  chain-kept memory earlier ss link (one ∷ links) small was kept = by (link == 0) refl (chain-kept memory earlier ss (next_link marked earlier ss link) links (next_small earlier ss link))
    where
      by : (last : Bool) → (link == 0) ≡ last → (chain marked earlier ss (next_link marked earlier ss link) ≡ Ok links → AllByRecursion (λ (link : Link). load_word memory ss link.at ≡ load_word earlier ss link.at) links → chain marked memory ss (next_link marked earlier ss link) ≡ Ok links) → chain marked memory ss link ≡ Ok (one ∷ links)
      by true is_last again =
          let zero_is : link ≡ 0 = eqb-true link 0 is_last in
          let nothing : chain marked earlier ss link ≡ Ok [] = rw zero_is (chain-end earlier ss) in
          absurd cc
      by false is_last again =
          let some : 0 < link = grind (arith, nat_tests) in
          let next = next_link marked earlier ss link in
          let first = first_link earlier ss link next some small refl (ap is_ok was) in
          let parts = first_links one links (links_of (chain marked earlier ss next)) (link_at marked earlier ss link) (sym (ap links_of was) ∙ first.links) in
          let others : chain marked earlier ss next ≡ Ok links = ok_links (chain marked earlier ss next) first.sound ∙ ap (λ links. Ok links) (sym parts.1) in
          let there = again others kept.1 in
          let at_is : one.at ≡ link = ap (λ (l : Link). l.at) parts.0 in
          let word_is : load_word memory ss link ≡ load_word earlier ss link = ap (load_word memory ss) (sym at_is) ∙ kept.0 ∙ ap (load_word earlier ss) at_is in
          let next_is : next ≡ next_link marked memory ss link = ap (λ (word : ℕ). (link_word marked (word % 65536)).next) (sym word_is) in
          let here_is : link_at marked memory ss link ≡ one = ap (λ (word : ℕ). let here : Link = record { at = link; far = (link_word marked (word % 65536)).far } in here) word_is ∙ sym parts.0 in
          chain-on memory ss link next some small next_is first.on ∙ ap (before (link_at marked memory ss link)) there ∙ ap (λ (one : Link). Ok (one ∷ links)) here_is
