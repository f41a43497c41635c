use Rattle.declaration_checker.proofs.headers.HeaderLaws.{lawful_type_named, lawful_named_type, lawful_procedure, lawful_function, lawful_routine, lawful_method}
use Rattle.declaration_checker.proofs.headers.laws.header_laws.Goals as goal

pub returns : goal.returns
returns c = record {
  name = lawful_type_named;
  named = lawful_named_type;
  procedure = lawful_procedure;
  function = lawful_function;
  routine = lawful_routine;
  method = lawful_method;
}
