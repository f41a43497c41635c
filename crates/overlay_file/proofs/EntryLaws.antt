-- Overlays in a file: what was read stands there, and what stands there is read.
use Rattle.std.proofs.Common.{◌≡◌, ℕ, zero, suc, ◌+◌, ◌-◌, ◌*◌, ◌<◌, ◌≤◌, List, [], ◌∷◌, ◌++◌, length, get_or, take, drop, map, Result, Ok, Err, refl, sym, ap, ap₂, subst, ◌∙◌, length-append, All, arith}
use Rattle.std.specs.Prelude.{IsTrue, nat_lt, nat_le}
use Rattle.std.specs.List.{flat_map, AllByRecursion}
use Rattle.std.proofs.lemmas.Bool.Decides.{nat_tests}
use Rattle.std.proofs.lemmas.List.Elements.{All-from_recursion}
use Rattle.cpu_8086.specs.Memory.{low_byte, high_byte}
use Rattle.mz_file.specs.Words.{word_at, words_at, bytes_of_words}
use Rattle.mz_file.proofs.WordLaws.{length-bytes_of_words}
use Rattle.overlay_file.specs.declared.overlay.OverlayCode8086.{OverlayCode8086}
use Rattle.overlay_file.specs.declared.overlay.OvrEntry.{OvrEntry}
use Rattle.overlay_file.specs.Format.{AreFixups, IsOverlay, name_bytes, sizes_bytes, overlay_bytes}
use Rattle.overlay_file.specs.Index.{entry_of, entry_end, index_from, overlay_of, overlays_of}
use Rattle.overlay_file.specs.Parts.{◌>>=◌, word_where, free_word, free_bytes}
use Rattle.overlay_file.specs.Reading.{is_code_size, name_at, fixups_from, entry_at, entries_from}
use Rattle.overlay_file.proofs.Places.{AreBytes, Has, has-append, has-front, has-back, has-unique, has-slice, length-slice, has-word, word-held, has-words, words-held, length-words_at}
use Rattle.overlay_file.proofs.PartLaws.{done, ok_is, bind_ok, both, and, Read, word_where-ok, word_where-again, free_word-ok, free_word-again, free_bytes-ok, free_bytes-again}
use Rattle.overlay_file.proofs.NameLaws.{NameStands, name_at-ok, name_at-again, FixupsRead, fixups_from-ok, fixups_from-again}

-- an overlay stands in a file at a place
pub record OverlayStands (bytes : List ℕ) (at : ℕ) (overlay : OverlayCode8086) (entry : OvrEntry) : Type 0 where
  pub held : Has bytes at (overlay_bytes overlay)
  pub sound : IsOverlay overlay
  pub entry_is : entry ≡ entry_of at overlay
  pub behind : entry_end entry ≡ at + length (overlay_bytes overlay)

length-overlay_bytes : (overlay : OverlayCode8086) → length (overlay_bytes overlay) ≡ 5 + length overlay.name + length overlay.code + 2 * length overlay.fixups
unfolding overlay_bytes
length-overlay_bytes overlay =
    omega (
      arith,
      length-append overlay.name (sizes_bytes overlay ++ (overlay.code ++ bytes_of_words overlay.fixups)),
      length-append overlay.code (bytes_of_words overlay.fixups),
      length-bytes_of_words overlay.fixups,
    )

-- as fixups rise by 2 within the code, a word counts them, and each is a word
fixups_within : (size least : ℕ) (fixups : List ℕ) → least ≤ size → AreFixups size least fixups → least + 2 * length fixups ≤ size
fixups_within size least [] room fit = omega arith
fixups_within size least (fixup ∷ fixups) room fit = omega (arith, fit.0, fixups_within size (fixup + 2) fixups fit.1 fit.2)

fixups_are_words : (size least : ℕ) (fixups : List ℕ) → size ≤ 65520 → AreFixups size least fixups → AllByRecursion (λ fixup. fixup < 65536) fixups
fixups_are_words size least [] room fit = tt
fixups_are_words size least (fixup ∷ fixups) room fit = (omega (arith, fit.1), fixups_are_words size (fixup + 2) fixups room fit.2)

pub few_fixups : (overlay : OverlayCode8086) → IsOverlay overlay → length overlay.fixups < 65536
few_fixups overlay sound = omega (arith, sound.size, fixups_within (length overlay.code) 0 overlay.fixups (omega arith) sound.fixups)

pub word_fixups : (overlay : OverlayCode8086) → IsOverlay overlay → All (λ fixup. fixup < 65536) overlay.fixups
word_fixups overlay sound = All-from_recursion (λ fixup. fixup < 65536) overlay.fixups (fixups_are_words (length overlay.code) 0 overlay.fixups sound.size sound.fixups)

-- the parts of an overlay, one after another
parts_stand : (bytes : List ℕ) (at : ℕ) (overlay : OverlayCode8086) → Has bytes at (name_bytes overlay.name) → Has bytes (at + 1 + length overlay.name) (sizes_bytes overlay) → Has bytes (at + 5 + length overlay.name) overlay.code
    → Has bytes (at + 5 + length overlay.name + length overlay.code) (bytes_of_words overlay.fixups) → Has bytes at (overlay_bytes overlay)
unfolding overlay_bytes
parts_stand bytes at overlay name sizes code fixups =
    let last = has-append bytes (at + 5 + length overlay.name) (at + 5 + length overlay.name + length overlay.code) overlay.code (bytes_of_words overlay.fixups) refl code fixups in
    let behind = has-append bytes (at + 1 + length overlay.name) (at + 5 + length overlay.name) (sizes_bytes overlay) (overlay.code ++ bytes_of_words overlay.fixups) (omega arith) sizes last in
    has-append bytes at (at + 1 + length overlay.name) (name_bytes overlay.name) (sizes_bytes overlay ++ (overlay.code ++ bytes_of_words overlay.fixups)) (omega arith) name behind

pub record Parts (bytes : List ℕ) (at : ℕ) (overlay : OverlayCode8086) : Type 0 where
  pub name : Has bytes at (name_bytes overlay.name)
  pub size : Has bytes (at + 1 + length overlay.name) (low_byte (length overlay.code) ∷ high_byte (length overlay.code) ∷ bytes_of_words (length overlay.fixups ∷ []))
  pub count : Has bytes (at + 3 + length overlay.name) (low_byte (length overlay.fixups) ∷ high_byte (length overlay.fixups) ∷ [])
  pub code : Has bytes (at + 5 + length overlay.name) overlay.code
  pub fixups : Has bytes (at + 5 + length overlay.name + length overlay.code) (bytes_of_words overlay.fixups)

parts-from_overlay : (bytes : List ℕ) (at : ℕ) (overlay : OverlayCode8086) → Has bytes at (overlay_bytes overlay) → Parts bytes at overlay
unfolding overlay_bytes
parts-from_overlay bytes at overlay held =
    let last : List ℕ = overlay.code ++ bytes_of_words overlay.fixups in
    let behind = has-back bytes at (at + 1 + length overlay.name) (name_bytes overlay.name) (sizes_bytes overlay ++ last) (omega arith) held in
    let tail = has-back bytes (at + 1 + length overlay.name) (at + 5 + length overlay.name) (sizes_bytes overlay) last (omega arith) behind in
    let sizes = has-front bytes (at + 1 + length overlay.name) (sizes_bytes overlay) last behind in
    record {
      name = has-front bytes at (name_bytes overlay.name) (sizes_bytes overlay ++ last) held;
      size = sizes;
      count = has-back bytes (at + 1 + length overlay.name) (at + 3 + length overlay.name) (bytes_of_words (length overlay.code ∷ [])) (bytes_of_words (length overlay.fixups ∷ [])) (omega arith) sizes;
      code = has-front bytes (at + 5 + length overlay.name) overlay.code (bytes_of_words overlay.fixups) tail;
      fixups = has-back bytes (at + 5 + length overlay.name) (at + 5 + length overlay.name + length overlay.code) overlay.code (bytes_of_words overlay.fixups) refl tail;
    }

-- what reading makes of the parts
abbrev made : List ℕ → ℕ → ℕ → ℕ → OvrEntry
made name at size fixups = record { name = name; place = at + 5 + length name; size = size; fixups = fixups }

made_stands : (bytes : List ℕ) (at : ℕ) (name : List ℕ) (size fixups : ℕ) → AreBytes bytes → NameStands bytes at name → Read is_code_size bytes (at + 1 + length name) size (bytes_of_words (size ∷ []))
    → at + 5 + length name + size ≤ length bytes → (word_at bytes (at + 3 + length name) ≡ fixups) → FixupsRead size 0 fixups bytes (at + 5 + length name + size) (at + 5 + length name + size + 2 * fixups)
    → OverlayStands bytes at (overlay_of bytes (made name at size fixups)) (made name at size fixups)
made_stands bytes at name size fixups fits named sized room counted fixed =
    let entry = made name at size fixups in
    let overlay = overlay_of bytes entry in
    let size_is : length overlay.code ≡ size = length-slice bytes (at + 5 + length name) size room in
    let count_is : length overlay.fixups ≡ fixups = length-words_at bytes (at + 5 + length name + size) fixups in
    let limits = both (nat_lt 0 size) (nat_le size 65520) sized.allowed in
    let count_word = has-word bytes (at + 3 + length name) fits (omega arith) in
    let counts : Has bytes (at + 3 + length name) (bytes_of_words (fixups ∷ [])) = subst (λ (n : ℕ). Has bytes (at + 3 + length name) (bytes_of_words (n ∷ []))) counted count_word in
    let both_sizes = has-append bytes (at + 1 + length name) (at + 3 + length name) (bytes_of_words (size ∷ [])) (bytes_of_words (fixups ∷ [])) (omega arith) sized.held counts in
    let sizes : Has bytes (at + 1 + length name) (sizes_bytes overlay) = rw (size_is, count_is) both_sizes in
    let words = has-words bytes (at + 5 + length name + size) fixups fits fixed.inside in
    let behind_code : Has bytes (at + 5 + length name + length overlay.code) (bytes_of_words overlay.fixups) = subst (λ (n : ℕ). Has bytes (at + 5 + length name + n) (bytes_of_words overlay.fixups)) (sym size_is) words in
    let held = parts_stand bytes at overlay named.held sizes (has-slice bytes (at + 5 + length name) size room) behind_code in
    record {
      held = held;
      sound = record {
        name = named.is_name;
        some = grind (arith, nat_tests, limits.0, size_is);
        size = grind (arith, nat_tests, limits.1, size_is);
        fixups = subst (λ (n : ℕ). AreFixups n 0 overlay.fixups) (sym size_is) fixed.fit;
      };
      entry_is = λ i. record { name = name; place = at + 5 + length name; size = sym size_is i; fixups = sym count_is i };
      behind = omega (arith, length-overlay_bytes overlay, size_is, count_is);
    }

pub entry_at-ok : (bytes : List ℕ) (at : ℕ) (entry : OvrEntry) → AreBytes bytes → entry_at bytes at ≡ Ok entry → OverlayStands bytes at (overlay_of bytes entry) entry
unfolding entry_at
entry_at-ok bytes at entry fits read =
    let a = bind_ok (name_at bytes at) (λ name. word_where is_code_size bytes (at + 1 + length name) >>= λ size. free_word bytes (at + 3 + length name) >>= λ fixups. free_bytes size bytes (at + 5 + length name) >>= λ behind. fixups_from size 0 fixups bytes behind >>= λ _. Ok (made name at size fixups)) entry read in
    let name = a.0 in
    let b = bind_ok (word_where is_code_size bytes (at + 1 + length name)) (λ size. free_word bytes (at + 3 + length name) >>= λ fixups. free_bytes size bytes (at + 5 + length name) >>= λ behind. fixups_from size 0 fixups bytes behind >>= λ _. Ok (made name at size fixups)) entry a.2 in
    let size = b.0 in
    let c = bind_ok (free_word bytes (at + 3 + length name)) (λ fixups. free_bytes size bytes (at + 5 + length name) >>= λ behind. fixups_from size 0 fixups bytes behind >>= λ _. Ok (made name at size fixups)) entry b.2 in
    let fixups = c.0 in
    let d = bind_ok (free_bytes size bytes (at + 5 + length name)) (λ behind. fixups_from size 0 fixups bytes behind >>= λ _. Ok (made name at size fixups)) entry c.2 in
    let e = bind_ok (fixups_from size 0 fixups bytes d.0) (λ _. Ok (made name at size fixups)) entry d.2 in
    let room = free_bytes-ok size bytes (at + 5 + length name) d.0 d.1 in
    let counted = free_word-ok bytes (at + 3 + length name) fixups c.1 in
    let there : d.0 ≤ length bytes = omega arith in
    let fixed = fixups_from-ok size 0 fixups bytes d.0 e.0 fits there e.1 in
    let place : d.0 ≡ at + 5 + length name + size = room.1 in
    let moved : FixupsRead size 0 fixups bytes (at + 5 + length name + size) (at + 5 + length name + size + 2 * fixups) =
    subst (λ (behind : ℕ). FixupsRead size 0 fixups bytes behind (behind + 2 * fixups)) place (subst (λ (behind : ℕ). FixupsRead size 0 fixups bytes d.0 behind) fixed.behind_it fixed) in
    let stands = made_stands bytes at name size fixups fits (name_at-ok bytes at name a.1) (word_where-ok is_code_size bytes (at + 1 + length name) size fits b.1) room.0 counted.1 moved in
    subst (λ (entry : OvrEntry). OverlayStands bytes at (overlay_of bytes entry) entry) (ok_is (made name at size fixups) entry e.2) stands

pub entry_at-again : (bytes : List ℕ) (at : ℕ) (overlay : OverlayCode8086) → Has bytes at (overlay_bytes overlay) → IsOverlay overlay → entry_at bytes at ≡ Ok (entry_of at overlay)
unfolding entry_at
entry_at-again bytes at overlay held sound =
    let parts = parts-from_overlay bytes at overlay held in
    let name = overlay.name in
    let fits : IsTrue (is_code_size (length overlay.code)) = and (nat_lt 0 (length overlay.code)) (nat_le (length overlay.code) 65520) (grind (arith, nat_tests, sound.some)) (grind (arith, nat_tests, sound.size)) in
    let size = word_where-again is_code_size bytes (at + 1 + length name) (length overlay.code) (bytes_of_words (length overlay.fixups ∷ [])) parts.size fits in
    let count_is = word-held bytes (at + 3 + length name) (length overlay.fixups) [] parts.count in
    let count : free_word bytes (at + 3 + length name) ≡ Ok (length overlay.fixups) = free_word-again bytes (at + 3 + length name) (omega (arith, parts.count.inside)) ∙ ap (λ (n : ℕ). done n) count_is in
    let code = free_bytes-again (length overlay.code) bytes (at + 5 + length name) (omega (arith, parts.code.inside)) in
    let fixups = fixups_from-again (length overlay.code) 0 bytes (at + 5 + length name + length overlay.code) overlay.fixups parts.fixups sound.fixups in
    rw (name_at-again bytes at name parts.name sound.name, size, count, code, fixups) refl

-- an overlay that stands in the bytes is what its entry names there
pub overlay_of-held : (bytes : List ℕ) (at : ℕ) (overlay : OverlayCode8086) → Has bytes at (overlay_bytes overlay) → overlay_of bytes (entry_of at overlay) ≡ overlay
overlay_of-held bytes at overlay held =
    let parts = parts-from_overlay bytes at overlay held in
    let room : at + 5 + length overlay.name + length overlay.code ≤ length bytes = omega (arith, parts.code.inside) in
    let code : take (length overlay.code) (drop (at + 5 + length overlay.name) bytes) ≡ overlay.code =
    has-unique bytes (at + 5 + length overlay.name) (take (length overlay.code) (drop (at + 5 + length overlay.name) bytes)) overlay.code (length-slice bytes (at + 5 + length overlay.name) (length overlay.code) room) (has-slice bytes (at + 5 + length overlay.name) (length overlay.code) room) parts.code in
    let fixups = words-held bytes (at + 5 + length overlay.name + length overlay.code) overlay.fixups parts.fixups in
    λ i. record { name = overlay.name; code = code i; fixups = fixups i }

-- overlays one after another
pub record OverlaysStand (bytes : List ℕ) (at : ℕ) (overlays : List OverlayCode8086) (entries : List OvrEntry) (behind : ℕ) : Type 0 where
  pub held : Has bytes at (flat_map overlay_bytes overlays)
  pub sound : AllByRecursion IsOverlay overlays
  pub index : entries ≡ index_from at overlays
  pub end : behind ≡ at + length (flat_map overlay_bytes overlays)

pub record EntriesRead (left : ℕ) (bytes : List ℕ) (at : ℕ) (entries : List OvrEntry) (behind : ℕ) : Type 0 where
  pub count : length entries ≡ left
  pub stand : OverlaysStand bytes at (overlays_of bytes entries) entries behind

pub entries_from-ok : (left : ℕ) (bytes : List ℕ) (at : ℕ) (read : List OvrEntry × ℕ) → AreBytes bytes → at ≤ length bytes → entries_from left bytes at ≡ Ok read → EntriesRead left bytes at read.0 read.1
unfolding entries_from
entries_from-ok zero bytes at read fits inside was =
    let nothing : EntriesRead 0 bytes at [] at = record {
      count = refl;
      stand = record { held = record { inside = omega arith; same = λ k below. absurd (omega arith) }; sound = tt; index = refl; end = omega arith };
    } in
    let made : List OvrEntry × ℕ = ([], at) in
    subst (λ (read : List OvrEntry × ℕ). EntriesRead 0 bytes at read.0 read.1) (ok_is made read was) nothing
entries_from-ok (suc left) bytes at read fits inside was =
    let a = bind_ok (entry_at bytes at) (λ entry. entries_from left bytes (entry_end entry) >>= λ others. Ok (entry ∷ others.0, others.1)) read was in
    let b = bind_ok (entries_from left bytes (entry_end a.0)) (λ others. Ok (a.0 ∷ others.0, others.1)) read a.2 in
    let first = entry_at-ok bytes at a.0 fits a.1 in
    let overlay = overlay_of bytes a.0 in
    let others = entries_from-ok left bytes (entry_end a.0) b.0 fits (omega (arith, first.held.inside, first.behind)) b.1 in
    let made : List OvrEntry × ℕ = (a.0 ∷ b.0.0, b.0.1) in
    let text : List ℕ = flat_map overlay_bytes (overlays_of bytes b.0.0) in
    let index : a.0 ∷ b.0.0 ≡ index_from at (overlay ∷ overlays_of bytes b.0.0) =
    ap₂ (λ (entry : OvrEntry) (entries : List OvrEntry). entry ∷ entries) first.entry_is
    (others.stand.index ∙ ap (λ (entry : OvrEntry). index_from (entry_end entry) (overlays_of bytes b.0.0)) first.entry_is) in
    let whole : EntriesRead (suc left) bytes at made.0 made.1 = record {
      count = ap suc others.count;
      stand = record {
        held = has-append bytes at (entry_end a.0) (overlay_bytes overlay) text first.behind first.held others.stand.held;
        sound = (first.sound, others.stand.sound);
        index = index;
        end = omega (arith, others.stand.end, first.behind, length-append (overlay_bytes overlay) text);
      };
    } in
    subst (λ (read : List OvrEntry × ℕ). EntriesRead (suc left) bytes at read.0 read.1) (ok_is made read b.2) whole

pub entries_from-again : (bytes : List ℕ) (at : ℕ) (overlays : List OverlayCode8086) → Has bytes at (flat_map overlay_bytes overlays) → AllByRecursion IsOverlay overlays
    → entries_from (length overlays) bytes at ≡ Ok (index_from at overlays, at + length (flat_map overlay_bytes overlays))
unfolding entries_from
entries_from-again bytes at [] held sound = let here : at ≡ at + 0 = omega arith in ap (λ (n : ℕ). Ok ([], n)) here
entries_from-again bytes at (overlay ∷ overlays) held sound =
    let text : List ℕ = flat_map overlay_bytes overlays in
    let entry = entry_of at overlay in
    let behind : entry_end entry ≡ at + length (overlay_bytes overlay) = omega (arith, length-overlay_bytes overlay) in
    let first = entry_at-again bytes at overlay (has-front bytes at (overlay_bytes overlay) text held) sound.0 in
    let others = entries_from-again bytes (entry_end entry) overlays (has-back bytes at (entry_end entry) (overlay_bytes overlay) text behind held) sound.1 in
    let end : entry_end entry + length text ≡ at + length (overlay_bytes overlay ++ text) = omega (arith, length-append (overlay_bytes overlay) text) in
    rw (first, others) (ap (λ (n : ℕ). Ok (entry ∷ index_from (entry_end entry) overlays, n)) end)

-- what the entries name are the overlays that stand there
pub overlays_of-held : (bytes : List ℕ) (at : ℕ) (overlays : List OverlayCode8086) → Has bytes at (flat_map overlay_bytes overlays) → overlays_of bytes (index_from at overlays) ≡ overlays
overlays_of-held bytes at [] held = refl
overlays_of-held bytes at (overlay ∷ overlays) held =
    let text : List ℕ = flat_map overlay_bytes overlays in
    let entry = entry_of at overlay in
    let behind : entry_end entry ≡ at + length (overlay_bytes overlay) = omega (arith, length-overlay_bytes overlay) in
    ap₂ (λ (overlay : OverlayCode8086) (overlays : List OverlayCode8086). overlay ∷ overlays)
    (overlay_of-held bytes at overlay (has-front bytes at (overlay_bytes overlay) text held))
    (overlays_of-held bytes (entry_end entry) overlays (has-back bytes at (entry_end entry) (overlay_bytes overlay) text behind held))
