-- Lines with the words of their references filled in where they stand, and the bytes of such lines.
use Rattle.std.proofs.Common.{arith, ◌≡◌, ℕ, suc, ◌+◌, ◌%◌, List, [], ◌∷◌, ◌++◌, length, Option, Some, None, refl, sym, ap, subst, ◌∙◌, append_assoc, length-append}
use Rattle.object_file.specs.declared.object_unit.object.Ref.{Ref}
use Rattle.x86_table.specs.declared.instr.Instr.{Instr}
use Rattle.x86_table.specs.declared.instr.Instr.TheVariants as instr
use Rattle.x86_table.specs.declared.line.Line.{Line}
use Rattle.x86_table.specs.declared.line.Line.TheVariants.{One, Label, JumpShort, JumpNear, CallNear}
use Rattle.x86_table.specs.declared.operand.Place.TheVariants.{Direct}
use Rattle.x86_table.specs.declared.operand.WordReg.{WordReg}
use Rattle.x86_table.specs.Lines.{line_size, word_distance, line_instr, spelling_if, bytes_from, places_from, LineShortens, Shortens}
use Rattle.x86_table.specs.Spelling.{word_bytes, memory_modrm, byte_modrm, word_modrm, pair_form, pair_body, pair_override, spelling}
use Rattle.x86_table.specs.Standing.{LineAlike, Alike}
use Rattle.x86_table.proofs.Places.{length-line}
use Rattle.flat_code.specs.declared.memory.Place.{Place}
use Rattle.flat_code.specs.Program.{Key, runtime_key}
use Rattle.code_templates.specs.code_lines.Addresses.{Addresses, Context, key_in}
use Rattle.code_templates.specs.code_lines.Operands.{memory_at}
use Rattle.code_templates.specs.declared.code_references.marks.MarkedLine.{MarkedLine}
use Rattle.code_templates.specs.declared.code_references.marks.Target.{Target}
use Rattle.code_templates.specs.declared.code_references.marks.Target.TheVariants as to
use Rattle.code_templates.specs.code_references.Marks.{with_datum, placed_instr, lines_of}
use Rattle.code_templates.proofs.code_references.Sizes.{placed_size}
use Rattle.codegen_8086.specs.object_code.References.{name_in, ref_of, refs_of, refs_at}
use Rattle.codegen_8086.specs.object_code.Resolved.{known_as, key_of, NamesLead, runtime_place, far_words, word_in, filling, replaced, resolved}
use Rattle.codegen_8086.proofs.object_code.Bytes.{word-there, replaced-there}
use Rattle.codegen_8086.proofs.object_code.Good.{Form, ByteStored, WordStored, ByteLoaded, WordLoaded, AddressLoaded, Called, formed, Refers, IsGood, AllGood}

-- the offset of a routine of the unit
abbrev pub near_of : Context → ℕ → ℕ
near_of x number = x.addresses.near (record { unit = x.own; number = number })

-- the instruction at an offset, its word filled in
abbrev pub fill_instr : Context → ℕ → Target → Instr → Instr
fill_instr x q (to.OwnRoutine number) i = instr.CallNear (word_distance (q + 3) (near_of x number))
fill_instr x q t i = placed_instr x t i

abbrev pub fill_line : Context → ℕ → Option Target → Line → Line
fill_line x q (Some t) (One i) = One (fill_instr x q t i)
fill_line x q _ l = l

-- lines filled in, the first of which stands at q, where they are laid out as ys
abbrev pub fills : Context → ℕ → List MarkedLine → List Line → List Line → List Line
fills x q [] ys ls = []
fills x q (m ∷ ms) [] ls = []
fills x q (m ∷ ms) (y ∷ ys) [] = []
fills x q (m ∷ ms) (y ∷ ys) (l ∷ ls) = fill_line x q m.target l ∷ fills x (q + line_size y) ms ys ls

-- ---- sizes

line_alike : (x : Line) → LineAlike x x
line_alike (One i) = refl
line_alike (Label l) = refl
line_alike (JumpShort c l) = refl
line_alike (JumpNear l) = refl
line_alike (CallNear l) = refl

near_size : (d : ℕ) (i : Instr) → i ≡ instr.CallNear 0 → length (spelling i) ≡ length (spelling (instr.CallNear d))
unfolding word_bytes
near_size d i e = ap (λ j. length (spelling j)) e

fill_size : (k : ℕ) (x : Context) (q : ℕ) (t : Target) (i : Instr) → Refers k t i → length (spelling i) ≡ length (spelling (fill_instr x q t i))
fill_size k x q (to.Datum unit number) i g = sym (placed_size x (to.Datum unit number) i)
fill_size k x q (to.Table unit number) i g = sym (placed_size x (to.Table unit number) i)
fill_size k x q (to.Routine unit number) i g = sym (placed_size x (to.Routine unit number) i)
fill_size k x q (to.OwnRoutine number) i g = near_size (word_distance (q + 3) (near_of x number)) i g.1
fill_size k x q (to.Runtime number) i g = sym (placed_size x (to.Runtime number) i)
fill_size k x q to.ErrorRoutine i g = sym (placed_size x to.ErrorRoutine i)
fill_size k x q to.ClearRoutine i g = sym (placed_size x to.ClearRoutine i)
fill_size k x q to.FlagRoutine i g = sym (placed_size x to.FlagRoutine i)

fill_alike : (k : ℕ) (x : Context) (q : ℕ) (t : Option Target) (l : Line) → IsGood k t l → LineAlike l (fill_line x q t l)
fill_alike k x q None l g = line_alike l
fill_alike k x q (Some t) (One i) g = fill_size k x q t i g
fill_alike k x q (Some t) (Label l) g = absurd g
fill_alike k x q (Some t) (JumpShort c l) g = absurd g
fill_alike k x q (Some t) (JumpNear l) g = absurd g
fill_alike k x q (Some t) (CallNear l) g = absurd g

-- what a line is shortened to is as good
short_alike : (k : ℕ) (x : Context) (q : ℕ) (t : Option Target) (l y : Line) → IsGood k t l → LineShortens l y → LineAlike y (fill_line x q t y)
short_alike k x q None l y g h = line_alike y
short_alike k x q (Some t) (One i) y g h = subst (λ z. LineAlike z (fill_line x q (Some t) z)) (sym h) (fill_size k x q t i g)
short_alike k x q (Some t) (Label l) y g h = absurd g
short_alike k x q (Some t) (JumpShort c l) y g h = absurd g
short_alike k x q (Some t) (JumpNear l) y g h = absurd g
short_alike k x q (Some t) (CallNear l) y g h = absurd g

fill_short : (k : ℕ) (x : Context) (q : ℕ) (t : Option Target) (l y : Line) → IsGood k t l → LineShortens l y → LineShortens (fill_line x q t l) (fill_line x q t y)
fill_short k x q None l y g h = h
fill_short k x q (Some t) (One i) y g h = ap (fill_line x q (Some t)) h
fill_short k x q (Some t) (Label l) y g h = absurd g
fill_short k x q (Some t) (JumpShort c l) y g h = absurd g
fill_short k x q (Some t) (JumpNear l) y g h = absurd g
fill_short k x q (Some t) (CallNear l) y g h = absurd g

pub lines_alike : (k : ℕ) (x : Context) (q : ℕ) (ms : List MarkedLine) (ys : List Line) → AllGood k ms → Shortens (lines_of ms) ys → Alike (lines_of ms) (fills x q ms ys (lines_of ms))
lines_alike k x q [] ys g h = refl
lines_alike k x q (m ∷ ms) [] g h = absurd h
lines_alike k x q (m ∷ ms) (y ∷ ys) g h = (fill_alike k x q m.target m.line g.0, lines_alike k x (q + line_size y) ms ys g.1 h.1)

pub shorts_alike : (k : ℕ) (x : Context) (q : ℕ) (ms : List MarkedLine) (ys : List Line) → AllGood k ms → Shortens (lines_of ms) ys → Alike ys (fills x q ms ys ys)
shorts_alike k x q [] ys g h = subst (λ z. Alike z []) (sym h) refl
shorts_alike k x q (m ∷ ms) [] g h = absurd h
shorts_alike k x q (m ∷ ms) (y ∷ ys) g h = (short_alike k x q m.target m.line y g.0 h.0, shorts_alike k x (q + line_size y) ms ys g.1 h.1)

pub fills_shorten : (k : ℕ) (x : Context) (q : ℕ) (ms : List MarkedLine) (ys : List Line) → AllGood k ms → Shortens (lines_of ms) ys → Shortens (fills x q ms ys (lines_of ms)) (fills x q ms ys ys)
fills_shorten k x q [] ys g h = refl
fills_shorten k x q (m ∷ ms) [] g h = absurd h
fills_shorten k x q (m ∷ ms) (y ∷ ys) g h = (fill_short k x q m.target m.line y g.0 h.0, fills_shorten k x (q + line_size y) ms ys g.1 h.1)

-- ---- the word of one instruction

-- two bytes before the offset of an operand
record Spelled (f : Form) : Type 0 where
  first : ℕ
  second : ℕ
  is : (d : ℕ) → spelling (formed f (memory_at (Direct d))) ≡ first ∷ second ∷ word_bytes d

form_spelled : (f : Form) → Spelled f
unfolding memory_modrm byte_modrm word_modrm pair_form pair_body pair_override
form_spelled (ByteStored r) = record { first = _; second = _; is = λ d. refl }
form_spelled (WordStored r) = record { first = _; second = _; is = λ d. refl }
form_spelled (ByteLoaded r) = record { first = _; second = _; is = λ d. refl }
form_spelled (WordLoaded r) = record { first = _; second = _; is = λ d. refl }
form_spelled (AddressLoaded r) = record { first = _; second = _; is = λ d. refl }
form_spelled Called = record { first = _; second = _; is = λ d. refl }

form_moved : (f : Form) (v d : ℕ) → with_datum v (formed f (memory_at (Direct d))) ≡ formed f (memory_at (Direct ((v + d) % 65536)))
form_moved (ByteStored r) v d = refl
form_moved (WordStored r) v d = refl
form_moved (ByteLoaded r) v d = refl
form_moved (WordLoaded r) v d = refl
form_moved (AddressLoaded r) v d = refl
form_moved Called v d = refl

two : (v w : ℕ) → length (word_bytes v) ≡ length (word_bytes w)
unfolding word_bytes
two v w = refl

four : (p : Place) → length (word_bytes 0 ++ word_bytes 0) ≡ length (far_words p)
unfolding word_bytes
four p = refl

-- bytes with one instruction among them
abbrev among : List ℕ → List ℕ → List ℕ → List ℕ
among pre code rest = pre ++ (code ++ rest)

datum_filled : (pre rest : List ℕ) (q v : ℕ) (i : Instr) (f : Form) (d : ℕ) → length pre ≡ q → i ≡ formed f (memory_at (Direct d)) → replaced (q + 2) (word_bytes ((v + word_in (q + 2) (among pre (spelling i) rest)) % 65536)) (among pre (spelling i) rest) ≡ among pre (spelling (with_datum v i)) rest
datum_filled pre rest q v i f d h e =
    let s = form_spelled f in
    let head = s.first ∷ s.second ∷ [] in
    let old : spelling i ≡ head ++ word_bytes d = ap spelling e ∙ s.is d in
    let new : spelling (with_datum v i) ≡ head ++ word_bytes ((v + d) % 65536) = ap (λ j. spelling (with_datum v j)) e ∙ ap spelling (form_moved f v d) ∙ s.is ((v + d) % 65536) in
    let there : word_in (q + 2) (among pre (spelling i) rest) ≡ d = ap (λ z. word_in (q + 2) (among pre z rest)) old ∙ word-there pre head rest q 2 d h refl in
    ap (λ z. replaced (q + 2) (word_bytes ((v + z) % 65536)) (among pre (spelling i) rest)) there
    ∙ ap (λ z. replaced (q + 2) (word_bytes ((v + d) % 65536)) (among pre z rest)) old
    ∙ replaced-there pre head (word_bytes d) (word_bytes ((v + d) % 65536)) rest q 2 h refl (two d ((v + d) % 65536))
    ∙ ap (λ z. among pre z rest) (sym new)

table_filled : (pre rest : List ℕ) (q v w : ℕ) (r : WordReg) → length pre ≡ q → replaced (q + 1) (word_bytes v) (among pre (spelling (instr.MovWord r w)) rest) ≡ among pre (spelling (instr.MovWord r v)) rest
table_filled pre rest q v w r h = replaced-there pre (_ ∷ []) (word_bytes w) (word_bytes v) rest q 1 h refl (two w v)

call_filled : (pre rest : List ℕ) (q : ℕ) (p : Place) → length pre ≡ q → replaced (q + 1) (far_words p) (among pre (spelling (instr.CallFar 0 0)) rest) ≡ among pre (spelling (instr.CallFar p.offset p.segment)) rest
call_filled pre rest q p h = replaced-there pre (_ ∷ []) (word_bytes 0 ++ word_bytes 0) (far_words p) rest q 1 h refl (four p)

jump_filled : (pre rest : List ℕ) (q : ℕ) (p : Place) → length pre ≡ q → replaced (q + 1) (far_words p) (among pre (spelling (instr.JumpFar 0 0)) rest) ≡ among pre (spelling (instr.JumpFar p.offset p.segment)) rest
jump_filled pre rest q p h = replaced-there pre (_ ∷ []) (word_bytes 0 ++ word_bytes 0) (far_words p) rest q 1 h refl (four p)

near_filled : (pre rest : List ℕ) (q d : ℕ) → length pre ≡ q → replaced (q + 1) (word_bytes d) (among pre (spelling (instr.CallNear 0)) rest) ≡ among pre (spelling (instr.CallNear d)) rest
near_filled pre rest q d h = replaced-there pre (_ ∷ []) (word_bytes 0) (word_bytes d) rest q 1 h refl (two 0 d)

runtime_routine : (a : Addresses) (n : ℕ) → runtime_place a (suc (suc (suc (suc (suc n))))) ≡ a.far (runtime_key (suc (suc (suc (suc (suc n))))))
runtime_routine a n = refl

runtime_far : (a : Addresses) (n : ℕ) → runtime_place a (5 + n) ≡ a.far (runtime_key (5 + n))
runtime_far a n =
    let e : 5 + n ≡ suc (suc (suc (suc (suc n)))) = omega arith in
    ap (runtime_place a) e ∙ runtime_routine a n ∙ sym (ap (λ m. a.far (runtime_key m)) e)

-- ---- what references fill

-- what a reference of an instruction at q fills, in a segment where the bytes begin at p
abbrev filled : Context → ℕ → ℕ → Target → List ℕ → List ℕ
filled x p q t bytes =
    let one = ref_of x.unit.names q t in
    replaced one.offset (filling x.addresses one.kind (key_of x.own x.unit.names one) (p + one.offset + 2) (word_in one.offset bytes)) bytes

key_led : (x : Context) → NamesLead x.own x.unit.names → (place number : ℕ) → record { unit = known_as x.own x.unit.names (name_in x.unit.names place); number = number } ≡ key_in x place number
key_led x lead place number = ap (λ z. record { unit = z; number = number }) (lead place)

one_filled : (k : ℕ) (x : Context) (p q : ℕ) (pre rest : List ℕ) (t : Target) (i : Instr) → NamesLead x.own x.unit.names → length pre ≡ q → Refers k t i → filled x p q t (among pre (spelling i) rest) ≡ among pre (spelling (fill_instr x (p + q) t i)) rest
one_filled k x p q pre rest (to.Datum unit number) i lead h g =
    ap (λ (key : Key). replaced (q + 2) (word_bytes ((x.addresses.datum key + word_in (q + 2) (among pre (spelling i) rest)) % 65536)) (among pre (spelling i) rest)) (key_led x lead unit number)
    ∙ datum_filled pre rest q (x.addresses.datum (key_in x unit number)) i g.0 g.1 h g.2
one_filled k x p q pre rest (to.Table unit number) i lead h g =
    let v = x.addresses.vmt (key_in x unit number) in
    ap (λ (key : Key). replaced (q + 1) (word_bytes (x.addresses.vmt key)) (among pre (spelling i) rest)) (key_led x lead unit number)
    ∙ ap (λ j. replaced (q + 1) (word_bytes v) (among pre (spelling j) rest)) g.2
    ∙ table_filled pre rest q v g.1 g.0 h
    ∙ sym (ap (λ j. among pre (spelling (placed_instr x (to.Table unit number) j)) rest) g.2)
one_filled k x p q pre rest (to.Routine unit number) i lead h g =
    let place = x.addresses.far (key_in x unit number) in
    ap (λ (key : Key). replaced (q + 1) (far_words (x.addresses.far key)) (among pre (spelling i) rest)) (key_led x lead unit number)
    ∙ ap (λ j. replaced (q + 1) (far_words place) (among pre (spelling j) rest)) g
    ∙ call_filled pre rest q place h
    ∙ sym (ap (λ j. among pre (spelling (placed_instr x (to.Routine unit number) j)) rest) g)
one_filled k x p q pre rest (to.OwnRoutine number) i lead h g =
    let target = near_of x number in
    let end : p + (q + 1) + 2 ≡ p + q + 3 = omega arith in
    ap (λ (key : Key). replaced (q + 1) (word_bytes (word_distance (p + (q + 1) + 2) (x.addresses.near key))) (among pre (spelling i) rest)) (key_led x lead 0 number)
    ∙ ap (λ n. replaced (q + 1) (word_bytes (word_distance n target)) (among pre (spelling i) rest)) end
    ∙ ap (λ j. replaced (q + 1) (word_bytes (word_distance (p + q + 3) target)) (among pre (spelling j) rest)) g.1
    ∙ near_filled pre rest q (word_distance (p + q + 3) target) h
one_filled k x p q pre rest (to.Runtime number) i lead h g =
    let place = x.addresses.far (runtime_key number) in
    let there : runtime_place x.addresses number ≡ place = ap (runtime_place x.addresses) g.1 ∙ runtime_far x.addresses g.0 ∙ sym (ap (λ n. x.addresses.far (runtime_key n)) g.1) in
    ap (λ (w : Place). replaced (q + 1) (far_words w) (among pre (spelling i) rest)) there
    ∙ ap (λ j. replaced (q + 1) (far_words place) (among pre (spelling j) rest)) g.2
    ∙ call_filled pre rest q place h
    ∙ sym (ap (λ j. among pre (spelling (placed_instr x (to.Runtime number) j)) rest) g.2)
one_filled k x p q pre rest to.ErrorRoutine i lead h g =
    ap (λ j. replaced (q + 1) (far_words x.addresses.error_routine) (among pre (spelling j) rest)) g
    ∙ jump_filled pre rest q x.addresses.error_routine h
    ∙ sym (ap (λ j. among pre (spelling (placed_instr x to.ErrorRoutine j)) rest) g)
one_filled k x p q pre rest to.ClearRoutine i lead h g =
    ap (λ j. replaced (q + 1) (far_words x.addresses.clear_routine) (among pre (spelling j) rest)) g
    ∙ call_filled pre rest q x.addresses.clear_routine h
    ∙ sym (ap (λ j. among pre (spelling (placed_instr x to.ClearRoutine j)) rest) g)
one_filled k x p q pre rest to.FlagRoutine i lead h g =
    ap (λ j. replaced (q + 1) (far_words x.addresses.flag_routine) (among pre (spelling j) rest)) g
    ∙ call_filled pre rest q x.addresses.flag_routine h
    ∙ sym (ap (λ j. among pre (spelling (placed_instr x to.FlagRoutine j)) rest) g)

-- ---- the bytes of lines

-- resolved, for the addresses and names of a context
abbrev by_context : Context → ℕ → List ℕ → List Ref → List ℕ
by_context x p bytes refs = resolved x.addresses x.own x.unit.names p bytes refs

one_line : (k : ℕ) (x : Context) (labels : ℕ → ℕ) (p q : ℕ) (pre : List ℕ) (t : Option Target) (l y : Line) (rest more : List ℕ) (refs : List Ref)
    → NamesLead x.own x.unit.names → length pre ≡ q → IsGood k t l → LineShortens l y
    → ((front : List ℕ) → length front ≡ q + line_size y → by_context x p (front ++ rest) refs ≡ front ++ more)
    → by_context x p (pre ++ (spelling_if (line_instr labels q y) ++ rest)) (refs_of x.unit.names q t ++ refs) ≡ pre ++ (spelling_if (line_instr labels q (fill_line x (p + q) t y)) ++ more)
one_line k x labels p q pre None l y rest more refs lead h g short next =
    let s = spelling_if (line_instr labels q y) in
    let n : length (pre ++ s) ≡ q + line_size y = omega (arith, length-append pre s, length-line labels q y, h) in
    ap (λ z. by_context x p z refs) (sym (append_assoc pre s rest)) ∙ next (pre ++ s) n ∙ append_assoc pre s more
one_line k x labels p q pre (Some t) (One i) y rest more refs lead h g short next =
    let j = fill_instr x (p + q) t i in
    let n : length (pre ++ spelling j) ≡ q + line_size y = omega (arith, length-append pre (spelling j), h, fill_size k x (p + q) t i g, ap line_size short) in
    ap (λ z. by_context x p (pre ++ (spelling_if (line_instr labels q z) ++ rest)) (refs_of x.unit.names q (Some t) ++ refs)) short
    ∙ ap (λ z. by_context x p z refs) (one_filled k x p q pre rest t i lead h g)
    ∙ ap (λ z. by_context x p z refs) (sym (append_assoc pre (spelling j) rest))
    ∙ next (pre ++ spelling j) n
    ∙ append_assoc pre (spelling j) more
    ∙ sym (ap (λ z. pre ++ (spelling_if (line_instr labels q (fill_line x (p + q) (Some t) z)) ++ more)) short)
one_line k x labels p q pre (Some t) (Label l) y rest more refs lead h g short next = absurd g
one_line k x labels p q pre (Some t) (JumpShort c l) y rest more refs lead h g short next = absurd g
one_line k x labels p q pre (Some t) (JumpNear l) y rest more refs lead h g short next = absurd g
one_line k x labels p q pre (Some t) (CallNear l) y rest more refs lead h g short next = absurd g

pub bytes_filled : (k : ℕ) (x : Context) (labels : ℕ → ℕ) (p q : ℕ) (pre : List ℕ) (ms : List MarkedLine) (ys : List Line)
    → NamesLead x.own x.unit.names → length pre ≡ q → AllGood k ms → Shortens (lines_of ms) ys
    → by_context x p (pre ++ bytes_from labels q ys) (refs_at x.unit.names (places_from q ys) ms) ≡ pre ++ bytes_from labels q (fills x (p + q) ms ys ys)
bytes_filled k x labels p q pre [] ys lead h g short = ap (λ z. pre ++ bytes_from labels q z) short
bytes_filled k x labels p q pre (m ∷ ms) [] lead h g short = absurd short
bytes_filled k x labels p q pre (m ∷ ms) (y ∷ ys) lead h g short =
    let w = fills x (p + q + line_size y) ms ys ys in
    let e : p + (q + line_size y) ≡ p + q + line_size y = omega arith in
    let same : line_size (fill_line x (p + q) m.target y) ≡ line_size y = filled_line_size k x (p + q) m.target m.line y g.0 short.0 in
    one_line k x labels p q pre m.target m.line y (bytes_from labels (q + line_size y) ys) (bytes_from labels (q + line_size y) w) (refs_at x.unit.names (places_from (q + line_size y) ys) ms) lead h g.0 short.0
    (λ front n. bytes_filled k x labels p (q + line_size y) front ms ys lead n g.1 short.1 ∙ ap (λ z. front ++ bytes_from labels (q + line_size y) (fills x z ms ys ys)) e)
    ∙ ap (λ z. pre ++ (spelling_if (line_instr labels q (fill_line x (p + q) m.target y)) ++ bytes_from labels (q + z) w)) (sym same)
  where
    filled_line_size : (k : ℕ) (x : Context) (q : ℕ) (t : Option Target) (l y : Line) → IsGood k t l → LineShortens l y → line_size (fill_line x q t y) ≡ line_size y
    filled_line_size k x q None l y g h = refl
    filled_line_size k x q (Some t) (One i) y g h = ap (λ z. line_size (fill_line x q (Some t) z)) h ∙ sym (fill_size k x q t i g) ∙ sym (ap line_size h)
    filled_line_size k x q (Some t) (Label l) y g h = absurd g
    filled_line_size k x q (Some t) (JumpShort c l) y g h = absurd g
    filled_line_size k x q (Some t) (JumpNear l) y g h = absurd g
    filled_line_size k x q (Some t) (CallNear l) y g h = absurd g
