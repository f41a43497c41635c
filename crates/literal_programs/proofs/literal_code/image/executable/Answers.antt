use Rattle.std.proofs.Common.{◌≡◌, ℕ, ◌≤◌, length, sym, ap, ◌∙◌, subst, arith}
use Rattle.std.specs.Prelude.{vec_len}
use Rattle.std.specs.List.{All}
use Rattle.literal_programs.specs.literal_code.Act.{IsWithin}
use Rattle.mz_file.specs.declared.executable.Exe.{Exe}
use Rattle.mz_file.specs.Format.{Denotes}
use Rattle.mz_file.specs.Load.{paragraphs_taken, IsLoadable}
use Rattle.mz_file.specs.Spelling.{IsWritable}
use Rattle.literal_programs.proofs.literal_code.Sizes.{image_sized}
use Rattle.literal_programs.proofs.literal_code.Whole as whole
use Rattle.literal_programs.proofs.literal_code.image.executable.Goals as goal

few : (c : goal.In_ok-exe) → length c.args.program.now.acts.items ≤ 4096
few c = omega (arith, c.args.program.now.acts_fit)

short : (c : goal.In_ok-exe) → length c.args.program.now.pool.items ≤ 8192
short c = omega (arith, c.args.program.now.pool_fits)

within : (c : goal.In_ok-exe) → All (IsWithin (length c.args.program.now.pool.items)) c.args.program.now.acts.items
within c =
    let same : vec_len c.args.program.now.pool ≡ length c.args.program.now.pool.items = omega arith in
    let P : ℕ → Type 0 = λ n. All (IsWithin n) c.args.program.now.acts.items in
    subst P same c.args.program.now.within

pub returns-clause-writable : goal.returns-clause-writable
returns-clause-writable c =
    subst IsWritable (sym c.in_ok-exe.ensures) (whole.writable c.args.memory c.args.program.now.pool.items c.args.program.now.acts.items (few c) (short c))

pub returns-clause-loadable : goal.returns-clause-loadable
returns-clause-loadable c =
    subst IsLoadable (sym c.in_ok-exe.ensures) (whole.loadable c.args.memory c.args.program.now.pool.items c.args.program.now.acts.items (few c) (short c))

pub returns-clause-ends : goal.returns-clause-ends
returns-clause-ends c = λ bytes denotes.
    whole.always_ends c.args.memory c.args.program.now.pool.items c.args.program.now.acts.items bytes c.requires.stack c.requires.heap (few c) (short c) (within c) (subst (Denotes bytes) c.in_ok-exe.ensures denotes)

pub returns-clause-short : goal.returns-clause-short
returns-clause-short c = λ bytes input denotes.
    whole.ends_within c.args.memory c.args.program.now.pool.items c.args.program.now.acts.items bytes input (few c) (short c) (within c) (subst (Denotes bytes) c.in_ok-exe.ensures denotes)

pub returns-clause-fits : goal.returns-clause-fits
returns-clause-fits c =
    let P : Exe → Type 0 = λ exe. paragraphs_taken exe ≤ 40960 in
    subst P (sym c.in_ok-exe.ensures) (whole.fits c.args.memory c.args.program.now.pool.items c.args.program.now.acts.items c.requires.stack c.requires.heap (few c) (short c))

pub returns-clause-size : goal.returns-clause-size
returns-clause-size c = λ full.
    ap (λ (exe : Exe). length exe.image) c.in_ok-exe.ensures ∙ image_sized c.args.program.now.pool.items c.args.program.now.acts.items (omega (arith, full))
