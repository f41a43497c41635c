-- No address is known: each is 0, and of a routine only its frame.
use Rattle.std.specs.Prelude.{Bool, [], None}
use Rattle.flat_code.specs.declared.memory.Place.{Place}
use Rattle.code_templates.specs.code_lines.Addresses.{Addresses, Context}

abbrev pub nowhere : Place
nowhere = record { segment = 0; offset = 0 }

abbrev pub unplaced : Addresses
unplaced = record {
  data_segment = 0;
  datum = λ key. 0;
  vmt = λ key. 0;
  near = λ key. 0;
  far = λ key. nowhere;
  error_routine = nowhere;
  clear_routine = nowhere;
  flag_routine = nowhere;
}

-- the code of a far or near routine, whichever it is
abbrev pub in_frame : Bool → Context
in_frame far = record { addresses = unplaced; own = []; unit = record { names = []; routines = []; globals = []; vmts = []; initial = None }; far = far }
