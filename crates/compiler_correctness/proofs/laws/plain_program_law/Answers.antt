use Rattle.compiler_correctness.proofs.Plain.{correct_plain}
use Rattle.compiler_correctness.proofs.laws.plain_program_law.Goals as goal

pub returns : goal.returns
returns c = λ program exe typed built. correct_plain
    (record {
      start = c.start_law.ensures;
      leads = c.run_law.ensures.runs;
      alike = c.resident_law.ensures;
      once = c.run_law-2.ensures.one;
      plain = record { only = c.plain_law.ensures.only; all = c.plain_law.ensures.all };
      opening = c.plain_opening_law.ensures.opened;
      runs = c.meaning_laws.ensures.runs;
    })
    program exe (c.sound_program_laws.ensures.all program typed) built
