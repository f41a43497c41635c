-- Assembled lines stand where they were placed, at any offset; jumps land on their labels.
use Rattle.std.proofs.Common.{◌≡◌, ℕ, suc, ◌+◌, ◌-◌, ◌*◌, ◌%◌, ◌≤◌, ◌<◌, Bool, true, false, List, [], ◌∷◌, ◌++◌, length, take, drop, arith, refl, sym, ap, subst, ◌∙◌, ◌⊎◌, inl, inr, ⊎_elim, append_assoc, length-append}
use Rattle.std.specs.Prelude.{if◌then◌else◌, nat_eq, Some}
use Rattle.std.proofs.lemmas.Bool.{eq-eqb, ne_eqb}
use Rattle.std.proofs.Math.Seq.{drop-append_seam}
use Rattle.x86_table.specs.declared.instr.Cond.TheVariants as cond
use Rattle.x86_table.specs.declared.instr.Instr.{Instr}
use Rattle.x86_table.specs.declared.instr.Instr.TheVariants as instr
use Rattle.x86_table.specs.declared.line.Line.{Line}
use Rattle.x86_table.specs.declared.line.Line.TheVariants.{One, Label, JumpShort, JumpNear, CallNear}
use Rattle.x86_table.specs.Spelling.{spelling}
use Rattle.x86_table.specs.Lines.{line_size, code_size, marks, label_from, label_place, byte_distance, word_distance, line_instr, spelling_if, bytes_from, assembled, Reaches, LineReaches, ReachesFrom, ShortJumpsReach, LineShortens, Shortens}
use Rattle.x86_table.specs.Standing.{IsSpelledAt, label_line_from, label_line, HasLabel, LabelsAreOnce, LineIs, LineStands, Stands, offset_of}
use Rattle.x86_table.proofs.Places.{length-line}

-- these very lines stand, from line k on
unfoldable pub Are : (ℕ → Instr → Type 0) → (ℕ → ℕ) → (ℕ → ℕ) → ℕ → List Line → Type 0
Are stands at lines k [] = Unit {0}
Are stands at lines k (x ∷ xs) = LineIs stands at lines k x × Are stands at lines (k + 1) xs

-- the offsets of lines, the first of which stands at a
unfoldable Offsets : (ℕ → ℕ) → ℕ → ℕ → List Line → Type 0
Offsets at a k [] = at k ≡ a
Offsets at a k (x ∷ xs) = (at k ≡ a) × Offsets at (a + line_size x) (k + 1) xs

offsets_here : (at : ℕ → ℕ) (a k : ℕ) (xs : List Line) → Offsets at a k xs → at k ≡ a
unfolding Offsets
offsets_here at a k [] h = h
offsets_here at a k (x ∷ xs) h = h.0

offsets_of : (at : ℕ → ℕ) (a k : ℕ) (xs : List Line) → ((j : ℕ) → at (k + j) ≡ a + code_size (take j xs)) → Offsets at a k xs
unfolding Offsets
offsets_of at a k [] h =
    let e : k + 0 ≡ k = omega arith in
    let f : a + 0 ≡ a = omega arith in
    ap at (sym e) ∙ h 0 ∙ f
offsets_of at a k (x ∷ xs) h =
    let e : k + 0 ≡ k = omega arith in
    let f : a + 0 ≡ a = omega arith in (
      ap at (sym e) ∙ h 0 ∙ f,
      offsets_of at (a + line_size x) (k + 1) xs (λ j.
          let g : k + 1 + j ≡ k + suc j = omega arith in
          ap at g ∙ h (suc j) ∙ (omega arith)),
    )

-- the offset of a label's line is its place
label_offset : (at : ℕ → ℕ) (p q k : ℕ) (xs : List Line) (l : ℕ) → Offsets at (p + q) k xs → at (label_line_from k xs l) ≡ p + label_from q xs l
unfolding Offsets
label_offset at p q k [] l h = h
label_offset at p q k (x ∷ xs) l h =
    let e : p + q + line_size x ≡ p + (q + line_size x) = omega arith in
    let o : Offsets at (p + (q + line_size x)) (k + 1) xs = subst (λ a. Offsets at a (k + 1) xs) e h.1 in
    chosen at p (marks l x) k (label_line_from (k + 1) xs l) q (label_from (q + line_size x) xs l) h.0 (label_offset at p (q + line_size x) (k + 1) xs l o)
  where
    chosen : (at : ℕ → ℕ) (p : ℕ) (b : Bool) (k m q n : ℕ) → at k ≡ p + q → at m ≡ p + n → at (if b then k else m) ≡ p + (if b then q else n)
    chosen at p true k m q n g h = g
    chosen at p false k m q n g h = h

-- what is known of the lines from line k on: their offsets, the labels that are among them, their bytes and reach
record Rest (stands : ℕ → Instr → Type 0) (at lines labels : ℕ → ℕ) (p q k : ℕ) (code before : List ℕ) (xs : List Line) : Type 0 where
  offsets : Offsets at (p + q) k xs
  found : (l : ℕ) → HasLabel l xs → lines l ≡ label_line_from k xs l
  once : LabelsAreOnce xs
  bytes : before ++ bytes_from labels q xs ≡ code
  length_is : length before ≡ q
  reaches : ReachesFrom labels q xs

found_next : (lines : ℕ → ℕ) (k : ℕ) (x : Line) (xs : List Line) → LabelsAreOnce (x ∷ xs) → ((l : ℕ) → HasLabel l (x ∷ xs) → lines l ≡ label_line_from k (x ∷ xs) l) → (l : ℕ) → HasLabel l xs → lines l ≡ label_line_from (k + 1) xs l
found_next lines k (One i) xs o f l h = f l h
found_next lines k (Label m) xs o f l h = f l (inr h) ∙ ap (λ b. if b then k else label_line_from (k + 1) xs l) (ne_eqb m l (λ e. o.0 (subst (λ n. HasLabel n xs) (sym e) h)))
found_next lines k (JumpShort c m) xs o f l h = f l h
found_next lines k (JumpNear m) xs o f l h = f l h
found_next lines k (CallNear m) xs o f l h = f l h

once_next : (x : Line) (xs : List Line) → LabelsAreOnce (x ∷ xs) → LabelsAreOnce xs
once_next (One i) xs o = o
once_next (Label m) xs o = o.1
once_next (JumpShort c m) xs o = o
once_next (JumpNear m) xs o = o
once_next (CallNear m) xs o = o

rest_next : (stands : ℕ → Instr → Type 0) (at lines labels : ℕ → ℕ) (p q k : ℕ) (code before : List ℕ) (x : Line) (xs : List Line) → Rest stands at lines labels p q k code before (x ∷ xs) → Rest stands at lines labels p (q + line_size x) (k + 1) code (before ++ spelling_if (line_instr labels q x)) xs
unfolding Offsets
rest_next stands at lines labels p q k code before x xs r =
    let b = spelling_if (line_instr labels q x) in
    let n = r.length_is in
    let e : p + q + line_size x ≡ p + (q + line_size x) = omega arith in
    record {
      offsets = subst (λ a. Offsets at a (k + 1) xs) e r.offsets.1;
      found = found_next lines k x xs r.once r.found;
      once = once_next x xs r.once;
      bytes = append_assoc before b (bytes_from labels (q + line_size x) xs) ∙ r.bytes;
      length_is = omega (arith, length-append before b, length-line labels q x);
      reaches = r.reaches.1;
    }

-- distances don't depend on where the code begins
same_byte_distance : (p e t : ℕ) → byte_distance (p + e) (p + t) ≡ byte_distance e t
same_byte_distance p e t =
    let h : p + t + 65536 - (p + e) ≡ t + 65536 - e = omega arith in
    ap (λ n. n % 256) h

same_word_distance : (p e t : ℕ) → word_distance (p + e) (p + t) ≡ word_distance e t
same_word_distance p e t =
    let h : p + t + 65536 - (p + e) ≡ t + 65536 - e = omega arith in
    ap (λ n. n % 65536) h

-- an instruction whose operand is computed from equal numbers
instr_here : (stands : ℕ → Instr → Type 0) (f : ℕ → Instr) (a b d n : ℕ) → a ≡ b → d ≡ n → stands b (f n) → stands a (f d)
instr_here stands f a b d n e h s = rw (e, h) s

rest_line : (stands : ℕ → Instr → Type 0) (at lines labels : ℕ → ℕ) (p q k : ℕ) (code before : List ℕ) (x : Line) (xs : List Line) → ((l : ℕ) → at (lines l) ≡ p + labels l) → ((pre post : List ℕ) (i : Instr) → pre ++ (spelling i ++ post) ≡ code → stands (p + length pre) i) → Rest stands at lines labels p q k code before (x ∷ xs) → LineIs stands at lines k x
unfolding Offsets
rest_line stands at lines labels p q k code before (One i) xs places spelled r =
    let n = r.length_is in
    let here = r.offsets.0 in
    let next = offsets_here at (p + q + length (spelling i)) (k + 1) xs r.offsets.1 in
    (instr_here stands (λ m. i) (at k) (p + length before) 0 0 (omega arith) refl (spelled before (bytes_from labels (q + length (spelling i)) xs) i r.bytes), omega arith)
rest_line stands at lines labels p q k code before (Label l) xs places spelled r =
    let here = r.offsets.0 in
    let next = offsets_here at (p + q + 0) (k + 1) xs r.offsets.1 in
    (r.found l (inl refl) ∙ ap (λ b. if b then k else label_line_from (k + 1) xs l) (eq-eqb l l refl), omega arith)
rest_line stands at lines labels p q k code before (JumpShort c l) xs places spelled r =
    let n = r.length_is in
    let here = r.offsets.0 in
    let next = offsets_here at (p + q + 2) (k + 1) xs r.offsets.1 in
    let target = places l in
    let end : at (k + 1) ≡ p + (q + 2) = omega arith in
    let d : byte_distance (at (k + 1)) (at (lines l)) ≡ byte_distance (q + 2) (labels l) = rw (end, target) (same_byte_distance p (q + 2) (labels l)) in
    let r0 = r.reaches.0.0 in
    let r1 = r.reaches.0.1 in
    (instr_here stands (λ m. instr.JumpShort c m) (at k) (p + length before) _ _ (omega arith) d (spelled before (bytes_from labels (q + 2) xs) (instr.JumpShort c (byte_distance (q + 2) (labels l))) r.bytes), (omega arith, omega arith), omega arith)
rest_line stands at lines labels p q k code before (JumpNear l) xs places spelled r =
    let n = r.length_is in
    let here = r.offsets.0 in
    let next = offsets_here at (p + q + 3) (k + 1) xs r.offsets.1 in
    let target = places l in
    let end : at (k + 1) ≡ p + (q + 3) = omega arith in
    let d : word_distance (at (k + 1)) (at (lines l)) ≡ word_distance (q + 3) (labels l) = rw (end, target) (same_word_distance p (q + 3) (labels l)) in
    (instr_here stands (λ m. instr.JumpNear m) (at k) (p + length before) _ _ (omega arith) d (spelled before (bytes_from labels (q + 3) xs) (instr.JumpNear (word_distance (q + 3) (labels l))) r.bytes), omega arith)
rest_line stands at lines labels p q k code before (CallNear l) xs places spelled r =
    let n = r.length_is in
    let here = r.offsets.0 in
    let next = offsets_here at (p + q + 3) (k + 1) xs r.offsets.1 in
    let target = places l in
    let end : at (k + 1) ≡ p + (q + 3) = omega arith in
    let d : word_distance (at (k + 1)) (at (lines l)) ≡ word_distance (q + 3) (labels l) = rw (end, target) (same_word_distance p (q + 3) (labels l)) in
    (instr_here stands (λ m. instr.CallNear m) (at k) (p + length before) _ _ (omega arith) d (spelled before (bytes_from labels (q + 3) xs) (instr.CallNear (word_distance (q + 3) (labels l))) r.bytes), omega arith)

rest_are : (stands : ℕ → Instr → Type 0) (at lines labels : ℕ → ℕ) (p q k : ℕ) (code before : List ℕ) (xs : List Line) → ((l : ℕ) → at (lines l) ≡ p + labels l) → ((pre post : List ℕ) (i : Instr) → pre ++ (spelling i ++ post) ≡ code → stands (p + length pre) i) → Rest stands at lines labels p q k code before xs → Are stands at lines k xs
unfolding Are
rest_are stands at lines labels p q k code before [] places spelled r = tt
rest_are stands at lines labels p q k code before (x ∷ xs) places spelled r = (
  rest_line stands at lines labels p q k code before x xs places spelled r,
  rest_are stands at lines labels p (q + line_size x) (k + 1) code (before ++ spelling_if (line_instr labels q x)) xs places spelled (rest_next stands at lines labels p q k code before x xs r),
)

-- the lines of an assembled code, which stands at p, are there
pub assembled_are : (stands : ℕ → Instr → Type 0) (p : ℕ) (lines : List Line) → LabelsAreOnce lines → ShortJumpsReach lines → ((pre post : List ℕ) (i : Instr) → pre ++ (spelling i ++ post) ≡ assembled lines → stands (p + length pre) i) → Are stands (offset_of p lines) (label_line lines) 0 lines
assembled_are stands p lines once reach spelled =
    let at : ℕ → ℕ = λ k. p + code_size (take k lines) in
    let o : Offsets at (p + 0) 0 lines = offsets_of at (p + 0) 0 lines (λ j.
    let e : 0 + j ≡ j = omega arith in
    ap at e ∙ (omega arith)) in
    rest_are stands at (label_line lines) (label_place lines) p 0 0 (assembled lines) [] lines (λ l. label_offset at p 0 0 lines l o) spelled (record { offsets = o; found = λ l h. refl; once = once; bytes = refl; length_is = refl; reaches = reach })

line_stands : (stands : ℕ → Instr → Type 0) (at lines : ℕ → ℕ) (k : ℕ) (x y : Line) → LineShortens x y → LineIs stands at lines k y → LineStands stands at lines k x
line_stands stands at lines k (One i) y e h = subst (λ z. LineIs stands at lines k z) e h
line_stands stands at lines k (Label l) y e h = subst (λ z. LineIs stands at lines k z) e h
line_stands stands at lines k (JumpShort c l) y e h = subst (λ z. LineIs stands at lines k z) e h
line_stands stands at lines k (JumpNear l) y e h = ⊎_elim (λ f. inl (subst (λ z. LineIs stands at lines k z) f h)) (λ f. inr (subst (λ z. LineIs stands at lines k z) f h)) e
line_stands stands at lines k (CallNear l) y e h = subst (λ z. LineIs stands at lines k z) e h

pub lines_stand : (stands : ℕ → Instr → Type 0) (at lines : ℕ → ℕ) (k : ℕ) (xs ys : List Line) → Shortens xs ys → Are stands at lines k ys → Stands stands at lines k xs
unfolding Are
lines_stand stands at lines k [] ys e h = tt
lines_stand stands at lines k (x ∷ xs) [] e h = absurd e
lines_stand stands at lines k (x ∷ xs) (y ∷ ys) e h = (line_stands stands at lines k x y e.0 h.0, lines_stand stands at lines (k + 1) xs ys e.1 h.1)

shortened_marks : (x y : Line) (l : ℕ) → LineShortens x y → marks l y ≡ marks l x
shortened_marks (One i) y l h = ap (marks l) h
shortened_marks (Label k) y l h = ap (marks l) h
shortened_marks (JumpShort c k) y l h = ap (marks l) h
shortened_marks (JumpNear k) y l h = ⊎_elim (λ e. ap (marks l) e) (λ e. ap (marks l) e) h
shortened_marks (CallNear k) y l h = ap (marks l) h

-- short jumps leave the lines of labels as they are
shortened_label_line : (k : ℕ) (xs ys : List Line) (l : ℕ) → Shortens xs ys → label_line_from k ys l ≡ label_line_from k xs l
shortened_label_line k [] ys l h = ap (λ zs. label_line_from k zs l) h
shortened_label_line k (x ∷ xs) [] l h = absurd h
shortened_label_line k (x ∷ xs) (y ∷ ys) l h = rw (shortened_marks x y l h.0, shortened_label_line (k + 1) xs ys l h.1) refl

has_shortened : (l : ℕ) (xs ys : List Line) → Shortens xs ys → HasLabel l ys → HasLabel l xs
has_shortened l [] ys h g = subst (λ zs. HasLabel l zs) h g
has_shortened l (x ∷ xs) [] h g = absurd h
has_shortened l (One i ∷ xs) (y ∷ ys) h g = has_shortened l xs ys h.1 (subst (λ z. HasLabel l (z ∷ ys)) h.0 g)
has_shortened l (Label k ∷ xs) (y ∷ ys) h g =
    let f : (k ≡ l) ⊎ HasLabel l ys = subst (λ z. HasLabel l (z ∷ ys)) h.0 g in
    ⊎_elim (λ e. inl e) (λ e. inr (has_shortened l xs ys h.1 e)) f
has_shortened l (JumpShort c k ∷ xs) (y ∷ ys) h g = has_shortened l xs ys h.1 (subst (λ z. HasLabel l (z ∷ ys)) h.0 g)
has_shortened l (JumpNear k ∷ xs) (y ∷ ys) h g = has_shortened l xs ys h.1 (⊎_elim (λ e. subst (λ z. HasLabel l (z ∷ ys)) e g) (λ e. subst (λ z. HasLabel l (z ∷ ys)) e g) h.0)
has_shortened l (CallNear k ∷ xs) (y ∷ ys) h g = has_shortened l xs ys h.1 (subst (λ z. HasLabel l (z ∷ ys)) h.0 g)

once_shortened : (xs ys : List Line) → Shortens xs ys → LabelsAreOnce xs → LabelsAreOnce ys
once_shortened [] ys h o = subst LabelsAreOnce (sym h) o
once_shortened (x ∷ xs) [] h o = absurd h
once_shortened (One i ∷ xs) (y ∷ ys) h o = subst (λ z. LabelsAreOnce (z ∷ ys)) (sym h.0) (once_shortened xs ys h.1 o)
once_shortened (Label k ∷ xs) (y ∷ ys) h o =
    let f : LabelsAreOnce (Label k ∷ ys) = (λ g. o.0 (has_shortened k xs ys h.1 g), once_shortened xs ys h.1 o.1) in
    subst (λ z. LabelsAreOnce (z ∷ ys)) (sym h.0) f
once_shortened (JumpShort c k ∷ xs) (y ∷ ys) h o = subst (λ z. LabelsAreOnce (z ∷ ys)) (sym h.0) (once_shortened xs ys h.1 o)
once_shortened (JumpNear k ∷ xs) (y ∷ ys) h o =
    let g = once_shortened xs ys h.1 o in
    ⊎_elim (λ e. subst (λ z. LabelsAreOnce (z ∷ ys)) (sym e) g) (λ e. subst (λ z. LabelsAreOnce (z ∷ ys)) (sym e) g) h.0
once_shortened (CallNear k ∷ xs) (y ∷ ys) h o = subst (λ z. LabelsAreOnce (z ∷ ys)) (sym h.0) (once_shortened xs ys h.1 o)

-- lines stand where the bytes of their shortening stand: at p, for whatever notion of an instruction that stands somewhere
pub lines_stand_at : (stands : ℕ → Instr → Type 0) (p : ℕ) (xs ys : List Line) → Shortens xs ys → LabelsAreOnce xs → ShortJumpsReach ys → ((pre post : List ℕ) (i : Instr) → pre ++ (spelling i ++ post) ≡ assembled ys → stands (p + length pre) i) → Stands stands (offset_of p ys) (label_line xs) 0 xs
lines_stand_at stands p xs ys h o r spelled =
    let are = assembled_are stands p ys (once_shortened xs ys h o) r spelled in
    let e : label_line ys ≡ label_line xs = λ i l. shortened_label_line 0 xs ys l h i in
    lines_stand stands (offset_of p ys) (label_line xs) 0 xs ys h (subst (λ f. Are stands (offset_of p ys) f 0 ys) e are)

seam : (pre post code : List ℕ) (i : Instr) → pre ++ (spelling i ++ post) ≡ code → IsSpelledAt code (0 + length pre) i
seam pre post code i e =
    let z : 0 + length pre ≡ length pre = omega arith in
    (post, rw z (rw (← e) (drop-append_seam pre (spelling i ++ post))))

pub lines_are_spelled : (xs ys : List Line) → Shortens xs ys → LabelsAreOnce xs → ShortJumpsReach ys → Stands (IsSpelledAt (assembled ys)) (offset_of 0 ys) (label_line xs) 0 xs
lines_are_spelled xs ys h o r = lines_stand_at (IsSpelledAt (assembled ys)) 0 xs ys h o r (λ pre post i e. seam pre post (assembled ys) i e)

-- the jump lands: the distance, with its sign, from the next instruction is the target
pub near_lands : (end target : ℕ) → end ≤ 65536 → target < 65536 → (end + word_distance end target) % 65536 ≡ target
near_lands end target h g = omega arith

pub short_lands_ahead : (end target : ℕ) → Reaches end target → end ≤ 65536 → target < 65536 → byte_distance end target < 128 → (end + byte_distance end target) % 65536 ≡ target
short_lands_ahead end target h g k d =
    let h0 = h.0 in
    let h1 = h.1 in
    omega arith

pub short_lands_behind : (end target : ℕ) → Reaches end target → end ≤ 65536 → target < 65536 → 128 ≤ byte_distance end target → (end + (byte_distance end target + 65280)) % 65536 ≡ target
short_lands_behind end target h g k d =
    let h0 = h.0 in
    let h1 = h.1 in
    omega arith

-- code in parts
pub stands_front : (stands : ℕ → Instr → Type 0) (at lines : ℕ → ℕ) (k : ℕ) (xs ys : List Line) → Stands stands at lines k (xs ++ ys) → Stands stands at lines k xs
stands_front stands at lines k [] ys h = tt
stands_front stands at lines k (x ∷ xs) ys h = (h.0, stands_front stands at lines (k + 1) xs ys h.1)

pub stands_back : (stands : ℕ → Instr → Type 0) (at lines : ℕ → ℕ) (k : ℕ) (xs ys : List Line) → Stands stands at lines k (xs ++ ys) → Stands stands at lines (k + length xs) ys
stands_back stands at lines k [] ys h =
    let e : k ≡ k + 0 = omega arith in
    subst (λ n. Stands stands at lines n ys) e h
stands_back stands at lines k (x ∷ xs) ys h =
    let e : k + 1 + length xs ≡ k + suc (length xs) = omega arith in
    subst (λ n. Stands stands at lines n ys) e (stands_back stands at lines (k + 1) xs ys h.1)
