-- What the effects of the machine do in an activation as its routine sees it, and stores of the data's segment.
use Rattle.std.proofs.Common.{◌≡◌, ℕ, suc, ◌+◌, ◌<◌, inl, inr, List, [], ◌∷◌, ◌++◌, length, Option, Some, None, Ok, ℤ, refl, ap, ◌∙◌, arith}
use Rattle.flat_code.specs.declared.tree.Address.{Address}
use Rattle.flat_code.specs.declared.tree.Address.TheVariants.{Global, Local}
use Rattle.flat_code.specs.declared.memory.Place.{Place}
use Rattle.flat_code.specs.Tree.{Expr, Number, SegmentOf, expr_size, Step, StoreWord, Runtime, step_size, Code, End, Do, If}
use Rattle.flat_code.specs.Memory.{Cells, Found, ◌>>=◌, place_after, bytes_at, word_bytes}
use Rattle.flat_code.specs.Program.{Name, FlatProgram, Choice, text_unit}
use Rattle.flat_code.specs.Meaning.{Frame, State, Outcome, with_found, set_cells, with_cells, begun, spend, stored, give, value_of, values_of, if_placed, runtime_of, read_act, written, run, Next}
use Rattle.flat_code.specs.Gives.{with_turns}
use Rattle.flat_code.proofs.Nodes.{run-alone}
use Rattle.runtime_proofs.specs.routine_proofs.Activation.{Activation, Shows, IsSeen, IsPlaced}
use Rattle.runtime_proofs.specs.routine_proofs.Straight.{outer_place, seen_value, with_word_at, Exit, Onward}
use Rattle.runtime_proofs.specs.routine_proofs.Comes.{Comes, Does}
use Rattle.runtime_proofs.proofs.routine_proofs.Sight.{value-seen, place-seen, seen-byte}
use Rattle.runtime_proofs.proofs.routine_proofs.Stores.{word-seen}
use Rattle.runtime_proofs.proofs.routine_proofs.Rules.{tested-so}
use Rattle.runtime_proofs.specs.strings_in_memory.Strings.{HasBytes, place}
use Rattle.runtime_proofs.proofs.strings_in_memory.Cells.{byte-read}
pub use Rattle.runtime_proofs.specs.text_memory.EffectLaws.{SameRest}
use Rattle.runtime_proofs.specs.text_memory.Pieces.{print, fetch}

-- ---- where the data lie

module _ (choice : Choice) (own : Frame) (above : ℕ) (is_text : own.unit ≡ text_unit) where
  pub datum-place : (a : Activation) (number at plus : ℕ) → choice.datum (record { unit = text_unit; number = number }) ≡ Some at → outer_place choice own above a (Global 0 number plus) ≡ Ok (place_after (place choice.data_segment at) plus)
  datum-place a number at plus e =
      ap (λ (name : Name). let r : Found Place = (if_placed (choice.datum (record { unit = name; number = number })) >>= λ offset. Ok (place choice.data_segment offset)) >>= λ p. Ok (place_after p plus) in r) is_text
      ∙ ap (λ (o : Option ℕ). let r : Found Place = (if_placed o >>= λ offset. Ok (place choice.data_segment offset)) >>= λ p. Ok (place_after p plus) in r) e

module _ (program : FlatProgram) (choice : Choice) (own : Frame) (sp above : ℕ) (placed : IsPlaced choice own sp above) where
  -- ---- values

  -- what an expression comes to in all cells that show an activation
  abbrev pub Evaluates : Activation → Expr → ℕ → Type 0
  Evaluates a e v = (m : Cells) → Shows choice sp a m → value_of choice own m e ≡ Ok v

  pub seen-evaluates : (a : Activation) (e : Expr) (v : ℕ) → seen_value choice own above a e ≡ Ok v → Evaluates a e v
  seen-evaluates a e v h m shows = (value-seen choice own sp above placed a m shows e v h).0

  pub segment-evaluates : (a : Activation) (at : Address) (p : Place) → outer_place choice own above a at ≡ Ok p → Evaluates a (SegmentOf at) p.segment
  segment-evaluates a at p h m shows = ap (λ (x : Found Place). let r : Found ℕ = x >>= λ p. Ok p.segment in r) (place-seen choice own sp above placed a m shows at p h).0

  bytes-there : (a : Activation) (m : Cells) → Shows choice sp a m → (p : Place) (i : ℕ) (bytes : List ℕ) → HasBytes a.memory p i bytes → bytes_at m p i (length bytes) ≡ Ok bytes
  bytes-there a m shows p i [] has = refl
  bytes-there a m shows p i (b ∷ bytes) has =
      ap (λ (x : Found ℕ). let r : Found (List ℕ) = x >>= λ byte. bytes_at m p (i + 1) (length bytes) >>= λ bytes. Ok (byte ∷ bytes) in r) (seen-byte choice own sp above placed a m shows p i b (byte-read a.memory p i b has.0 has.1)).0
      ∙ ap (λ (x : Found (List ℕ)). let r : Found (List ℕ) = x >>= λ bytes. Ok (b ∷ bytes) in r) (bytes-there a m shows p (i + 1) bytes has.2)

  -- ---- a word becomes the segment of a place

  pub segment-does : (a b : Activation) (d : ℤ) (at : Address) (p : Place) → outer_place choice own above a at ≡ Ok p → p.segment < 65536 → with_word_at choice own above a (Local d) p.segment ≡ Ok b → SameRest a b →
      Does program choice own sp (Do (StoreWord (Local d) (SegmentOf at)) End) 0 2 a Onward b
  segment-does a b d at p found small put rest s seen =
      let step = StoreWord (Local d) (SegmentOf at) in
      let now = word-seen choice own sp above placed a b s.cells (Local d) p.segment small seen.cells put in
      let value = segment-evaluates a at p found s.cells seen.cells in
      record {
        spent = 0;
        few = omega arith;
        after = with_cells (begun 2 s) now.0;
        seen = record { cells = now.2; flag = seen.flag ∙ rest.flag; input = seen.input ∙ rest.input; out = seen.out ∙ rest.out; err = seen.err ∙ rest.err };
        worked = omega arith;
        ends = λ t.
            let same : 0 + t ≡ t = omega arith in
            let u = begun 2 (with_turns s t) in
            ap (λ k. run program choice (Do step End) own (with_turns s k)) same
            ∙ run-alone program choice step own (with_turns s t) u refl
            ∙ ap (λ (x : Found ℕ). with_found x u (λ v. stored choice own (Local d) (word_bytes v) u)) value
            ∙ ap (λ (x : Found Cells). with_found x u (set_cells u)) now.1;
        quiet = λ some. absurd (omega (arith, some));
        silent = λ none. (refl, refl);
      }

  -- ---- bytes go to the output

  pub print-does : (a : Activation) (segment offset count : Expr) (s o : ℕ) (bytes : List ℕ) → Evaluates a segment s → Evaluates a offset o → Evaluates a count (length bytes) → HasBytes a.memory (place s o) 0 bytes →
      Does program choice own sp (print segment offset count End) 1 (step_size (Runtime 0 (Number 1 ∷ segment ∷ offset ∷ count ∷ []) None)) a Onward (record a { out = a.out ++ bytes })
  print-does a segment offset count s o bytes first second third has st seen = record {
    spent = 1;
    few = omega arith;
    after = record (begun size st) { out = st.out ++ bytes };
    seen = record {
      cells = record { fits = seen.cells.fits; words = seen.cells.words; outside = seen.cells.outside; below = seen.cells.below };
      flag = seen.flag;
      input = seen.input;
      out = ap (λ l. l ++ bytes) seen.out;
      err = seen.err;
    };
    worked = omega arith;
    ends = λ t.
        let one : 1 + t ≡ suc t = omega arith in
        let u = begun size (with_turns st (suc t)) in
        let v = begun size (with_turns st t) in
        ap (λ k. run program choice (Do step End) own (with_turns st k)) one
        ∙ run-alone program choice step own (with_turns st (suc t)) u refl
        ∙ ap (λ (x : Found (List ℕ)). with_found x u (acts u)) values
        ∙ ap (λ (x : Found (List ℕ)). with_found x v (λ bytes. Next (written 1 bytes v))) (bytes-there a st.cells seen.cells (place s o) 0 bytes has);
    quiet = λ some.
        let u = begun size (with_turns st 0) in
        (u, run-alone program choice step own (with_turns st 0) u refl ∙ ap (λ (x : Found (List ℕ)). with_found x u (acts u)) values, refl, refl);
    silent = λ none. absurd (omega (arith, none));
  }
    where
      args : List Expr
      args = Number 1 ∷ segment ∷ offset ∷ count ∷ []

      step : Step
      step = Runtime 0 args None

      size : ℕ
      size = step_size step

      acts : State → List ℕ → Outcome
      acts u vs = spend u (runtime_of program choice (run program choice) 0 vs None own)

      values : values_of choice own st.cells args ≡ Ok (1 ∷ s ∷ o ∷ length bytes ∷ [])
      values =
          ap (λ (x : Found ℕ). let r : Found (List ℕ) = (x >>= λ v. values_of choice own st.cells (offset ∷ count ∷ []) >>= λ vs. Ok (v ∷ vs)) >>= λ vs. Ok (1 ∷ vs) in r) (first st.cells seen.cells)
          ∙ ap (λ (x : Found ℕ). let r : Found (List ℕ) = ((x >>= λ v. values_of choice own st.cells (count ∷ []) >>= λ vs. Ok (v ∷ vs)) >>= λ vs. Ok (s ∷ vs)) >>= λ vs. Ok (1 ∷ vs) in r) (second st.cells seen.cells)
          ∙ ap (λ (x : Found ℕ). let r : Found (List ℕ) = (((x >>= λ v. Ok (v ∷ [])) >>= λ vs. Ok (o ∷ vs)) >>= λ vs. Ok (s ∷ vs)) >>= λ vs. Ok (1 ∷ vs) in r) (third st.cells seen.cells)

  -- ---- a byte comes from the input

  fetched : (a b : Activation) (d : ℤ) (input rest : List ℕ) (v : ℕ) → v < 65536 → with_word_at choice own above a (Local d) v ≡ Ok b → SameRest a b → (s : State) → IsSeen choice sp a s →
      ((t : State) → t.input ≡ s.input → read_act choice own [] (Some (record { at = Local d; bytes = 2 })) t.input t ≡ give choice own (Some (record { at = Local d; bytes = 2 })) (word_bytes v) (record t { input = rest })) →
      Comes program choice own sp (fetch d End) 1 1 Onward (record b { input = rest }) s
  fetched a b d input rest v small put same s seen acted =
      let step = Runtime 1 [] (Some (record { at = Local d; bytes = 2 })) in
      let now = word-seen choice own sp above placed a b s.cells (Local d) v small seen.cells put in
      record {
        spent = 1;
        few = omega arith;
        after = record (with_cells (begun 1 s) now.0) { input = rest };
        seen = record {
          cells = record { fits = now.2.fits; words = now.2.words; outside = now.2.outside; below = now.2.below };
          flag = seen.flag ∙ same.flag;
          input = refl;
          out = seen.out ∙ same.out;
          err = seen.err ∙ same.err;
        };
        worked = omega arith;
        ends = λ t.
            let one : 1 + t ≡ suc t = omega arith in
            let u = begun 1 (with_turns s (suc t)) in
            let w = record (begun 1 (with_turns s t)) { input = rest } in
            ap (λ k. run program choice (Do step End) own (with_turns s k)) one
            ∙ run-alone program choice step own (with_turns s (suc t)) u refl
            ∙ acted (begun 1 (with_turns s t)) refl
            ∙ ap (λ (x : Found Cells). with_found x w (set_cells w)) now.1;
        quiet = λ some.
            let u = begun 1 (with_turns s 0) in
            (u, run-alone program choice step own (with_turns s 0) u refl, refl, refl);
        silent = λ none. absurd (omega (arith, none));
      }

  -- the input has ended
  pub end-does : (a b : Activation) (d : ℤ) → a.input ≡ [] → with_word_at choice own above a (Local d) 65535 ≡ Ok b → SameRest a b → Does program choice own sp (fetch d End) 1 1 a Onward (record b { input = [] })
  end-does a b d none put same s seen = fetched a b d [] [] 65535 (omega arith) put same s seen (λ t e. acted t (e ∙ seen.input ∙ none))
    where
      acted : (t : State) → t.input ≡ [] → read_act choice own [] (Some (record { at = Local d; bytes = 2 })) t.input t ≡ give choice own (Some (record { at = Local d; bytes = 2 })) (word_bytes 65535) (record t { input = [] })
      acted t e = ap (λ l. read_act choice own [] (Some (record { at = Local d; bytes = 2 })) l t) e ∙ ap (λ l. give choice own (Some (record { at = Local d; bytes = 2 })) (word_bytes 65535) (record t { input = l })) e

  -- a byte is there
  pub byte-does : (a b : Activation) (d : ℤ) (byte : ℕ) (rest : List ℕ) → a.input ≡ byte ∷ rest → byte < 256 → with_word_at choice own above a (Local d) byte ≡ Ok b → SameRest a b → Does program choice own sp (fetch d End) 1 1 a Onward (record b { input = rest })
  byte-does a b d byte rest some small put same s seen = fetched a b d (byte ∷ rest) rest byte (omega (arith, small)) put same s seen (λ t e. ap (λ l. read_act choice own [] (Some (record { at = Local d; bytes = 2 })) l t) (e ∙ seen.input ∙ some))

  -- ---- tests of which the branches are not straight

  seen-begun : (a : Activation) (s : State) (n : ℕ) → IsSeen choice sp a s → IsSeen choice sp a (begun n s)
  seen-begun a s n seen = record { cells = seen.cells; flag = seen.flag; input = seen.input; out = seen.out; err = seen.err }

  pub taken-does : (test : Expr) (taken other : Code) (v turns work : ℕ) (a : Activation) (exit : Exit) (b : Activation) → seen_value choice own above a test ≡ Ok v → (v ≡ 0 → ⊥) → Does program choice own sp taken turns work a exit b → Does program choice own sp (If test taken other End) turns (1 + expr_size test + work) a exit b
  taken-does test taken other v turns work a exit b e some does s seen =
      tested-so program choice own sp test taken other v turns work exit b s (seen-evaluates a test v e s.cells seen.cells) (inr (some, does (begun (1 + expr_size test) s) (seen-begun a s (1 + expr_size test) seen)))

  pub other-does : (test : Expr) (taken other : Code) (v turns work : ℕ) (a : Activation) (exit : Exit) (b : Activation) → seen_value choice own above a test ≡ Ok v → v ≡ 0 → Does program choice own sp other turns work a exit b → Does program choice own sp (If test taken other End) turns (1 + expr_size test + work) a exit b
  other-does test taken other v turns work a exit b e none does s seen =
      tested-so program choice own sp test taken other v turns work exit b s (seen-evaluates a test v e s.cells seen.cells) (inl (none, does (begun (1 + expr_size test) s) (seen-begun a s (1 + expr_size test) seen)))
