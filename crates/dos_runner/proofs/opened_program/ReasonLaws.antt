-- A program that is not opened has one reason, and one that is opened has none.
use Rattle.std.proofs.Common.{◌≡◌, ◌⊎◌, inl, inr, ℕ, ◌<◌, Bool, true, false, List, [], length, Option, None, Some, Ok, Err, refl, sym, ap, ap₂, ◌∙◌, subst, arith}
use Rattle.std.specs.Prelude.{◌==◌, MatchBool, All}
use Rattle.std.proofs.lemmas.Bool.{cases_order}
use Rattle.std.proofs.lemmas.Bool.Decides.{nat_tests}
use Rattle.std.proofs.lemmas.List.Elements.{All-get_or}
use Rattle.cpu_8086.specs.State.{State}
use Rattle.cpu_8086.specs.declared.registers.Far.{Far}
use Rattle.mz_file.specs.declared.cause.ExeCause.{ExeCause}
use Rattle.mz_file.specs.declared.cause.ExeCause.TheVariants as cause
use Rattle.mz_file.specs.declared.executable.Exe.{Exe}
use Rattle.mz_file.specs.Cause.{IsCause, IsFirstOutside}
use Rattle.mz_file.specs.Format.{IsExecutable, IsWithin, image_of, relocations_of, exe_of}
use Rattle.overlay_file.specs.declared.overlay.OvrEntry.{OvrEntry}
use Rattle.overlay_file.specs.Reading.{reading}
use Rattle.overlay_manager.specs.Manager.{Manager}
use Rattle.dos_runner.specs.declared.opened_program.error.OpenError.{OpenError}
use Rattle.dos_runner.specs.declared.opened_program.error.OpenError.TheVariants as errors
use Rattle.dos_runner.specs.opened_program.Matching.{BelongTogether, IsFirstMismatch}
use Rattle.dos_runner.specs.opened_program.Opening.{IsIndexOf, HasOverlays, IsDamagedAt, HasNoOverlays, room_of, FitTogether, IsMisfit, IsOpened, IsMisfitOf, IsRefused, HasReason}

no_far : Far
no_far = record { offset = 0; segment = 0 }

first_outside : (size : ℕ) (fars : List Far) (m n : ℕ) → IsFirstOutside size fars m → IsFirstOutside size fars n → m ≡ n
first_outside size fars m n a b = by (cases_order m n)
  where
    by : (m ≡ n) ⊎ ((m < n) ⊎ (n < m)) → m ≡ n
    by (inl same) = same
    by (inr (inl less)) = absurd (a.outside no_far (b.before m no_far less))
    by (inr (inr more)) = absurd (b.outside no_far (a.before n no_far more))

outside_not : (size : ℕ) (fars : List Far) (n : ℕ) → IsFirstOutside size fars n → All (IsWithin size) fars → ⊥
outside_not size fars n first each = first.outside no_far (All-get_or (IsWithin size) fars n no_far first.there each)

-- Bytes that are no executable file have one cause.
one_cause : (bytes : List ℕ) (c d : ExeCause) → IsCause bytes c → IsCause bytes d → c ≡ d
one_cause bytes cause.Short cause.Short a b = refl
one_cause bytes cause.Short cause.NotMz a b = absurd (a b.0)
one_cause bytes cause.Short cause.BadPages a b = absurd (a b.0)
one_cause bytes cause.Short (cause.BadRelocation n) a b = absurd (a b.0)
one_cause bytes cause.Short cause.NoBlock a b = absurd (a b.0)
one_cause bytes cause.NotMz cause.Short a b = absurd (b a.0)
one_cause bytes cause.NotMz cause.NotMz a b = refl
one_cause bytes cause.NotMz cause.BadPages a b = absurd (a.1 b.1)
one_cause bytes cause.NotMz (cause.BadRelocation n) a b = absurd (a.1 b.1)
one_cause bytes cause.NotMz cause.NoBlock a b = absurd (a.1 b.1)
one_cause bytes cause.BadPages cause.Short a b = absurd (b a.0)
one_cause bytes cause.BadPages cause.NotMz a b = absurd (b.1 a.1)
one_cause bytes cause.BadPages cause.BadPages a b = refl
one_cause bytes cause.BadPages (cause.BadRelocation n) a b = absurd (a.2 b.2)
one_cause bytes cause.BadPages cause.NoBlock a b = absurd (a.2 b.2)
one_cause bytes (cause.BadRelocation m) cause.Short a b = absurd (b a.0)
one_cause bytes (cause.BadRelocation m) cause.NotMz a b = absurd (b.1 a.1)
one_cause bytes (cause.BadRelocation m) cause.BadPages a b = absurd (b.2 a.2)
one_cause bytes (cause.BadRelocation m) (cause.BadRelocation n) a b = ap (λ (k : ℕ). cause.BadRelocation k) (first_outside (length (image_of bytes)) (relocations_of bytes) m n a.3 b.3)
one_cause bytes (cause.BadRelocation m) cause.NoBlock a b = absurd (outside_not (length (image_of bytes)) (relocations_of bytes) m a.3 b.3)
one_cause bytes cause.NoBlock cause.Short a b = absurd (b a.0)
one_cause bytes cause.NoBlock cause.NotMz a b = absurd (b.1 a.1)
one_cause bytes cause.NoBlock cause.BadPages a b = absurd (b.2 a.2)
one_cause bytes cause.NoBlock (cause.BadRelocation n) a b = absurd (outside_not (length (image_of bytes)) (relocations_of bytes) n b.3 a.3)
one_cause bytes cause.NoBlock cause.NoBlock a b = refl

no_cause : (bytes : List ℕ) (c : ExeCause) → IsCause bytes c → IsExecutable bytes → ⊥
no_cause bytes cause.Short a is = a is.long
no_cause bytes cause.NotMz a is = a.1 is.letters_MZ
no_cause bytes cause.BadPages a is = a.2 is.pages
no_cause bytes (cause.BadRelocation n) a is = outside_not (length (image_of bytes)) (relocations_of bytes) n a.3 is.relocations
no_cause bytes cause.NoBlock a is = a.4 is.block

-- The overlays of a program are known, or are not for one reason.
ok_same : (bytes : List ℕ) (xs ys : List OvrEntry) → reading bytes ≡ Ok xs → reading bytes ≡ Ok ys → xs ≡ ys
ok_same bytes xs ys a b = let both = sym a ∙ b in cc

err_same : (bytes : List ℕ) (m n : ℕ) → reading bytes ≡ Err m → reading bytes ≡ Err n → m ≡ n
err_same bytes m n a b = let both = sym a ∙ b in cc

ok_not_err : (bytes : List ℕ) (xs : List OvrEntry) (n : ℕ) → reading bytes ≡ Ok xs → reading bytes ≡ Err n → ⊥
ok_not_err bytes xs n a b = let both = sym a ∙ b in cc

same_overlays_by : (none : Bool) (held : Option (List ℕ)) (xs ys : List OvrEntry) → MatchBool none (xs ≡ []) (IsIndexOf held xs) → MatchBool none (ys ≡ []) (IsIndexOf held ys) → xs ≡ ys
same_overlays_by true held xs ys a b = a ∙ sym b
same_overlays_by false None xs ys a b = absurd a
same_overlays_by false (Some bytes) xs ys a b = ok_same bytes xs ys a b

same_overlays : (stubs : List ℕ) (held : Option (List ℕ)) (xs ys : List OvrEntry) → HasOverlays stubs held xs → HasOverlays stubs held ys → xs ≡ ys
same_overlays stubs held xs ys a b = same_overlays_by (length stubs == 0) held xs ys a b

index_of_some : (none : Bool) (count : ℕ) (held : Option (List ℕ)) (xs : List OvrEntry) → (count == 0) ≡ none → 0 < count → MatchBool none (xs ≡ []) (IsIndexOf held xs) → IsIndexOf held xs
index_of_some true count held xs is some a = absurd (grind (arith, nat_tests))
index_of_some false count held xs is some a = a

known_not_missing : (held : Option (List ℕ)) (xs : List OvrEntry) → IsIndexOf held xs → held ≡ None → ⊥
known_not_missing None xs a none = a
known_not_missing (Some bytes) xs a none = cc

known_not_damaged : (held : Option (List ℕ)) (xs : List OvrEntry) (at : ℕ) → IsIndexOf held xs → IsDamagedAt held at → ⊥
known_not_damaged None xs at a b = a
known_not_damaged (Some bytes) xs at a b = ok_not_err bytes xs at a b

missing_not_damaged : (held : Option (List ℕ)) (at : ℕ) → held ≡ None → IsDamagedAt held at → ⊥
missing_not_damaged None at none b = b
missing_not_damaged (Some bytes) at none b = cc

one_damage : (held : Option (List ℕ)) (m n : ℕ) → IsDamagedAt held m → IsDamagedAt held n → m ≡ n
one_damage None m n a b = absurd a
one_damage (Some bytes) m n a b = err_same bytes m n a b

-- Known overlays and the buffer fit the program, or do not for one reason.
first_mismatch : (image stubs : List ℕ) (overlays : List OvrEntry) (u v : ℕ) → IsFirstMismatch image stubs overlays u → IsFirstMismatch image stubs overlays v → u ≡ v
first_mismatch image stubs overlays u v a b = by (cases_order u v)
  where
    by : (u ≡ v) ⊎ ((u < v) ⊎ (v < u)) → u ≡ v
    by (inl same) = same
    by (inr (inl less)) = absurd (a.differs (b.before u less))
    by (inr (inr more)) = absurd (b.differs (a.before v more))

no_mismatch : (image stubs : List ℕ) (overlays : List OvrEntry) (v : ℕ) → BelongTogether image stubs overlays → IsFirstMismatch image stubs overlays v → ⊥
no_mismatch image stubs overlays v together first = by first.there
  where
    by : (v < length stubs) ⊎ (v < length overlays) → ⊥
    by (inl there) = first.differs (together.each v there)
    by (inr there) = first.differs (together.each v (omega (arith, there, together.same)))

one_misfit : (exe : Exe) (overlays : List OvrEntry) (room : ℕ) (d e : OpenError) → IsMisfit exe overlays room d → IsMisfit exe overlays room e → d ≡ e
one_misfit exe overlays room (errors.OverlayMismatch u) (errors.OverlayMismatch v) a b = ap (λ (k : ℕ). errors.OverlayMismatch k) (first_mismatch exe.image exe.block.stubs overlays u v a b)
one_misfit exe overlays room (errors.OverlayMismatch u) (errors.BufferTooSmall need have) a b = absurd (no_mismatch exe.image exe.block.stubs overlays u b.0 a)
one_misfit exe overlays room (errors.OverlayMismatch u) (errors.MemoryTooSmall need) a b = absurd (no_mismatch exe.image exe.block.stubs overlays u b.0 a)
one_misfit exe overlays room (errors.OverlayMismatch u) other a b = absurd b
one_misfit exe overlays room (errors.BufferTooSmall need have) (errors.OverlayMismatch v) a b = absurd (no_mismatch exe.image exe.block.stubs overlays v a.0 b)
one_misfit exe overlays room (errors.BufferTooSmall need have) (errors.BufferTooSmall need' have') a b = ap₂ (λ (m n : ℕ). errors.BufferTooSmall m n) (a.1 ∙ sym b.1) (a.2 ∙ sym b.2)
one_misfit exe overlays room (errors.BufferTooSmall need have) (errors.MemoryTooSmall need') a b = absurd (omega (arith, a.1, a.2, a.3, b.1))
one_misfit exe overlays room (errors.BufferTooSmall need have) other a b = absurd b
one_misfit exe overlays room (errors.MemoryTooSmall need) (errors.OverlayMismatch v) a b = absurd (no_mismatch exe.image exe.block.stubs overlays v a.0 b)
one_misfit exe overlays room (errors.MemoryTooSmall need) (errors.BufferTooSmall need' have) a b = absurd (omega (arith, b.1, b.2, b.3, a.1))
one_misfit exe overlays room (errors.MemoryTooSmall need) (errors.MemoryTooSmall need') a b = ap (λ (k : ℕ). errors.MemoryTooSmall k) (a.2 ∙ sym b.2)
one_misfit exe overlays room (errors.MemoryTooSmall need) other a b = absurd b
one_misfit exe overlays room other e a b = absurd a

no_misfit : (exe : Exe) (overlays : List OvrEntry) (room : ℕ) (e : OpenError) → FitTogether exe overlays room → IsMisfit exe overlays room e → ⊥
no_misfit exe overlays room (errors.OverlayMismatch v) fit a = no_mismatch exe.image exe.block.stubs overlays v fit.together a
no_misfit exe overlays room (errors.BufferTooSmall need have) fit a = let enough = fit.enough in omega (arith, enough, a.1, a.2, a.3)
no_misfit exe overlays room (errors.MemoryTooSmall need) fit a = let memory = fit.memory in omega (arith, memory, a.2, a.3)
no_misfit exe overlays room other fit a = a

-- What all reasons but the executable file's own, and an opened program, have in common: the file is an executable, and how its
-- overlays are known, or why they are not.
known_by : (bytes : List ℕ) (held : Option (List ℕ)) (xs : List OvrEntry) → 0 < length (exe_of bytes).block.stubs → HasOverlays (exe_of bytes).block.stubs held xs → IsIndexOf held xs
known_by bytes held xs some a = index_of_some (length (exe_of bytes).block.stubs == 0) (length (exe_of bytes).block.stubs) held xs refl some a

-- where the overlays are known, there is no reason but a misfit
unknown_not : (bytes name : List ℕ) (held : Option (List ℕ)) (xs : List OvrEntry) (e : OpenError) → HasOverlays (exe_of bytes).block.stubs held xs → HasReason e → HasNoOverlays (exe_of bytes).block.stubs name held e → ⊥
unknown_not bytes name held xs (errors.MissingFile other) known has none = known_not_missing held xs (known_by bytes held xs none.0 known) none.1
unknown_not bytes name held xs (errors.OverlayFileDamaged at) known has none = known_not_damaged held xs at (known_by bytes held xs none.0 known) none.1
unknown_not bytes name held xs errors.FilesFault known has none = has
unknown_not bytes name held xs errors.NoMemory known has none = has
unknown_not bytes name held xs other known has none = none

one_missing : (stubs name : List ℕ) (held : Option (List ℕ)) (one : List ℕ) (e : OpenError) → HasReason e → HasNoOverlays stubs name held (errors.MissingFile one) → HasNoOverlays stubs name held e → errors.MissingFile one ≡ e
one_missing stubs name held one (errors.MissingFile other) has a b = ap (λ (file : List ℕ). errors.MissingFile file) (a.2 ∙ sym b.2)
one_missing stubs name held one (errors.OverlayFileDamaged at) has a b = absurd (missing_not_damaged held at a.1 b.1)
one_missing stubs name held one errors.FilesFault has a b = absurd has
one_missing stubs name held one errors.NoMemory has a b = absurd has
one_missing stubs name held one other has a b = absurd b

one_damaged : (stubs name : List ℕ) (held : Option (List ℕ)) (at : ℕ) (e : OpenError) → HasReason e → HasNoOverlays stubs name held (errors.OverlayFileDamaged at) → HasNoOverlays stubs name held e → errors.OverlayFileDamaged at ≡ e
one_damaged stubs name held at (errors.MissingFile other) has a b = absurd (missing_not_damaged held at b.1 a.1)
one_damaged stubs name held at (errors.OverlayFileDamaged other) has a b = ap (λ (k : ℕ). errors.OverlayFileDamaged k) (one_damage held at other a.1 b.1)
one_damaged stubs name held at errors.FilesFault has a b = absurd has
one_damaged stubs name held at errors.NoMemory has a b = absurd has
one_damaged stubs name held at other has a b = absurd b

one_unknown : (stubs name : List ℕ) (held : Option (List ℕ)) (d e : OpenError) → HasReason d → HasReason e → HasNoOverlays stubs name held d → HasNoOverlays stubs name held e → d ≡ e
one_unknown stubs name held (errors.MissingFile one) e has has' a b = one_missing stubs name held one e has' a b
one_unknown stubs name held (errors.OverlayFileDamaged at) e has has' a b = one_damaged stubs name held at e has' a b
one_unknown stubs name held errors.FilesFault e has has' a b = absurd has
one_unknown stubs name held errors.NoMemory e has has' a b = absurd has
one_unknown stubs name held other e has has' a b = absurd a

two_misfits : (bytes : List ℕ) (held : Option (List ℕ)) (buffer : Option ℕ) (d e : OpenError) → IsMisfitOf bytes held buffer d → IsMisfitOf bytes held buffer e → d ≡ e
two_misfits bytes held buffer d e a b =
    let same = same_overlays (exe_of bytes).block.stubs held a.overlays b.overlays a.overlays_are b.overlays_are in
    one_misfit (exe_of bytes) b.overlays (room_of buffer b.overlays) d e
    (subst (λ (xs : List OvrEntry). IsMisfit (exe_of bytes) xs (room_of buffer xs) d) same a.misfit) b.misfit

opened_misfit : (bytes name : List ℕ) (held : Option (List ℕ)) (buffer : Option ℕ) (machine : State) (manager : Manager) (e : OpenError) → IsOpened bytes name held buffer machine manager → IsMisfitOf bytes held buffer e → ⊥
opened_misfit bytes name held buffer machine manager e opened b =
    let same = same_overlays (exe_of bytes).block.stubs held opened.overlays b.overlays opened.overlays_are b.overlays_are in
    no_misfit (exe_of bytes) b.overlays (room_of buffer b.overlays) e
    (subst (λ (xs : List OvrEntry). FitTogether (exe_of bytes) xs (room_of buffer xs)) same opened.fit) b.misfit

cause_alone : (bytes name : List ℕ) (held : Option (List ℕ)) (buffer : Option ℕ) (c : ExeCause) (e : OpenError) → HasReason e → IsCause bytes c → IsRefused bytes name held buffer e → errors.NotExecutable c ≡ e
cause_alone bytes name held buffer c (errors.NotExecutable d) has a b = ap (λ (c : ExeCause). errors.NotExecutable c) (one_cause bytes c d a b)
cause_alone bytes name held buffer c (errors.MissingFile other) has a b = absurd (no_cause bytes c a b.0)
cause_alone bytes name held buffer c (errors.OverlayFileDamaged at) has a b = absurd (no_cause bytes c a b.0)
cause_alone bytes name held buffer c (errors.OverlayMismatch v) has a b = absurd (no_cause bytes c a b.executable)
cause_alone bytes name held buffer c (errors.BufferTooSmall need have) has a b = absurd (no_cause bytes c a b.executable)
cause_alone bytes name held buffer c (errors.MemoryTooSmall need) has a b = absurd (no_cause bytes c a b.executable)
cause_alone bytes name held buffer c errors.FilesFault has a b = absurd has
cause_alone bytes name held buffer c errors.NoMemory has a b = absurd has

unknown_alone : (bytes name : List ℕ) (held : Option (List ℕ)) (buffer : Option ℕ) (d e : OpenError) → HasReason d → HasReason e → IsExecutable bytes → HasNoOverlays (exe_of bytes).block.stubs name held d → IsRefused bytes name held buffer e → d ≡ e
unknown_alone bytes name held buffer d (errors.NotExecutable c) has has' is a b = absurd (no_cause bytes c b is)
unknown_alone bytes name held buffer d (errors.MissingFile other) has has' is a b = one_unknown (exe_of bytes).block.stubs name held d (errors.MissingFile other) has has' a b.1
unknown_alone bytes name held buffer d (errors.OverlayFileDamaged at) has has' is a b = one_unknown (exe_of bytes).block.stubs name held d (errors.OverlayFileDamaged at) has has' a b.1
unknown_alone bytes name held buffer d (errors.OverlayMismatch v) has has' is a b = absurd (unknown_not bytes name held b.overlays d b.overlays_are has a)
unknown_alone bytes name held buffer d (errors.BufferTooSmall need have) has has' is a b = absurd (unknown_not bytes name held b.overlays d b.overlays_are has a)
unknown_alone bytes name held buffer d (errors.MemoryTooSmall need) has has' is a b = absurd (unknown_not bytes name held b.overlays d b.overlays_are has a)
unknown_alone bytes name held buffer d errors.FilesFault has has' is a b = absurd has'
unknown_alone bytes name held buffer d errors.NoMemory has has' is a b = absurd has'

misfit_alone : (bytes name : List ℕ) (held : Option (List ℕ)) (buffer : Option ℕ) (d e : OpenError) → HasReason e → IsMisfitOf bytes held buffer d → IsRefused bytes name held buffer e → d ≡ e
misfit_alone bytes name held buffer d (errors.NotExecutable c) has a b = absurd (no_cause bytes c b a.executable)
misfit_alone bytes name held buffer d (errors.MissingFile other) has a b = absurd (unknown_not bytes name held a.overlays (errors.MissingFile other) a.overlays_are has b.1)
misfit_alone bytes name held buffer d (errors.OverlayFileDamaged at) has a b = absurd (unknown_not bytes name held a.overlays (errors.OverlayFileDamaged at) a.overlays_are has b.1)
misfit_alone bytes name held buffer d (errors.OverlayMismatch v) has a b = two_misfits bytes held buffer d (errors.OverlayMismatch v) a b
misfit_alone bytes name held buffer d (errors.BufferTooSmall need have) has a b = two_misfits bytes held buffer d (errors.BufferTooSmall need have) a b
misfit_alone bytes name held buffer d (errors.MemoryTooSmall need) has a b = two_misfits bytes held buffer d (errors.MemoryTooSmall need) a b
misfit_alone bytes name held buffer d errors.FilesFault has a b = absurd has
misfit_alone bytes name held buffer d errors.NoMemory has a b = absurd has

pub one_reason : (bytes name : List ℕ) (held : Option (List ℕ)) (buffer : Option ℕ) (d e : OpenError) → HasReason d → HasReason e → IsRefused bytes name held buffer d → IsRefused bytes name held buffer e → d ≡ e
one_reason bytes name held buffer (errors.NotExecutable c) e has has' a b = cause_alone bytes name held buffer c e has' a b
one_reason bytes name held buffer (errors.MissingFile other) e has has' a b = unknown_alone bytes name held buffer (errors.MissingFile other) e has has' a.0 a.1 b
one_reason bytes name held buffer (errors.OverlayFileDamaged at) e has has' a b = unknown_alone bytes name held buffer (errors.OverlayFileDamaged at) e has has' a.0 a.1 b
one_reason bytes name held buffer (errors.OverlayMismatch v) e has has' a b = misfit_alone bytes name held buffer (errors.OverlayMismatch v) e has' a b
one_reason bytes name held buffer (errors.BufferTooSmall need have) e has has' a b = misfit_alone bytes name held buffer (errors.BufferTooSmall need have) e has' a b
one_reason bytes name held buffer (errors.MemoryTooSmall need) e has has' a b = misfit_alone bytes name held buffer (errors.MemoryTooSmall need) e has' a b
one_reason bytes name held buffer errors.FilesFault e has has' a b = absurd has
one_reason bytes name held buffer errors.NoMemory e has has' a b = absurd has

pub no_reason : (bytes name : List ℕ) (held : Option (List ℕ)) (buffer : Option ℕ) (machine : State) (manager : Manager) (e : OpenError) → IsOpened bytes name held buffer machine manager → HasReason e → IsRefused bytes name held buffer e → ⊥
no_reason bytes name held buffer machine manager (errors.NotExecutable c) opened has b = no_cause bytes c b opened.executable
no_reason bytes name held buffer machine manager (errors.MissingFile other) opened has b = unknown_not bytes name held opened.overlays (errors.MissingFile other) opened.overlays_are has b.1
no_reason bytes name held buffer machine manager (errors.OverlayFileDamaged at) opened has b = unknown_not bytes name held opened.overlays (errors.OverlayFileDamaged at) opened.overlays_are has b.1
no_reason bytes name held buffer machine manager (errors.OverlayMismatch v) opened has b = opened_misfit bytes name held buffer machine manager (errors.OverlayMismatch v) opened b
no_reason bytes name held buffer machine manager (errors.BufferTooSmall need have) opened has b = opened_misfit bytes name held buffer machine manager (errors.BufferTooSmall need have) opened b
no_reason bytes name held buffer machine manager (errors.MemoryTooSmall need) opened has b = opened_misfit bytes name held buffer machine manager (errors.MemoryTooSmall need) opened b
no_reason bytes name held buffer machine manager errors.FilesFault opened has b = has
no_reason bytes name held buffer machine manager errors.NoMemory opened has b = has
