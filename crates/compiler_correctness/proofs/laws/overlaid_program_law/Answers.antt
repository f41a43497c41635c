use Rattle.compiler_correctness.proofs.Overlaid.{correct}
use Rattle.compiler_correctness.proofs.laws.overlaid_program_law.Goals as goal

pub returns : goal.returns
returns c = λ program files typed built. correct
    (record {
      start = c.start_law.ensures;
      framed = c.run_law.ensures.framed;
      once = c.step_law.ensures.one;
      runs = c.meaning_laws.ensures.runs;
    })
    program files built (c.sound_program_laws.ensures.all program typed)
