-- What a service or an event does to the outside, by how it ends.
use Rattle.std.proofs.Common.{◌≡◌, ◌<◌, ℕ, Bool, List, [], length, refl, sym, Option, None, Some}
use Rattle.std.specs.Io.KnownBytes.{append_known}
use Rattle.tp_outside.specs.Faults.{HasRisen}
use Rattle.tp_outside.specs.Streams.{TakesPrefix}
use Rattle.cpu_8086.specs.declared.process.Why.{Why}
use Rattle.cpu_8086.specs.State.{State}
use Rattle.cpu_8086.specs.Process.{Running, Ended, Stopped}
use Rattle.dos_runner.specs.declared.runner.RunEnd.{RunEnd}
use Rattle.dos_runner.specs.declared.runner.RunEnd.TheVariants as ends
use Rattle.dos_runner.specs.Run.{Progress}
use Rattle.dos_runner.specs.Outside.{Outside, Gave, Progresses, Advances}
use Rattle.dos_runner.proofs.Composition.{gave_none, took_none}

-- the outside by its parts
abbrev pub outside : (input output errors : Option (List ℕ)) (input_faults output_faults errors_faults : ℕ) → Outside
outside input output errors input_faults output_faults errors_faults = record {
  input = input;
  output = output;
  errors = errors;
  input_faults = input_faults;
  output_faults = output_faults;
  errors_faults = errors_faults;
}

-- the parts of the outside that an event leaves alone
pub record IsQuiet (o o' : Outside) : Type 0 where
  pub input : o'.input ≡ o.input
  pub output : o'.output ≡ o.output
  pub errors : o'.errors ≡ o.errors

pub goes_quietly : (Is : Progress → Type 0) (new m : State) (over : Bool) (o o' : Outside) → new ≡ m → Is (record { machine = m; gained = []; out = []; err = []; status = Running }) → IsQuiet o o' → Progresses Is None new over over o o'
goes_quietly Is new m over o o' same does quiet = record {
  progress = record { machine = m; gained = []; out = []; err = []; status = Running };
  does = does;
  leaves = (sym same, refl);
  reads = gave_none over o.input o'.input quiet.input;
  wrote = took_none o.output o'.output quiet.output;
  told = took_none o.errors o'.errors quiet.errors;
  rose = tt;
}

pub ends_quietly : (Is : Progress → Type 0) (new last : State) (code : ℕ) (over : Bool) (o o' : Outside) → Is (record { machine = last; gained = []; out = []; err = []; status = Ended code }) → IsQuiet o o' → Progresses Is (Some (ends.Ended code)) new over over o o'
ends_quietly Is new last code over o o' does quiet = record {
  progress = record { machine = last; gained = []; out = []; err = []; status = Ended code };
  does = does;
  leaves = refl;
  reads = gave_none over o.input o'.input quiet.input;
  wrote = took_none o.output o'.output quiet.output;
  told = took_none o.errors o'.errors quiet.errors;
  rose = tt;
}

pub stops_quietly : (Is : Progress → Type 0) (new last : State) (cs ip : ℕ) (why : Why) (over : Bool) (o o' : Outside) → Is (record { machine = last; gained = []; out = []; err = []; status = Stopped cs ip why }) → IsQuiet o o' → Progresses Is (Some (ends.Stopped cs ip why)) new over over o o'
stops_quietly Is new last cs ip why over o o' does quiet = record {
  progress = record { machine = last; gained = []; out = []; err = []; status = Stopped cs ip why };
  does = does;
  leaves = refl;
  reads = gave_none over o.input o'.input quiet.input;
  wrote = took_none o.output o'.output quiet.output;
  told = took_none o.errors o'.errors quiet.errors;
  rose = tt;
}

pub goes_writing : (Is : Progress → Type 0) (new m : State) (out : List ℕ) (over : Bool) (o o' : Outside) → new ≡ m → Is (record { machine = m; gained = []; out = out; err = []; status = Running }) → o'.input ≡ o.input → o'.output ≡ append_known o.output out → o'.errors ≡ o.errors → Progresses Is None new over over o o'
goes_writing Is new m out over o o' same does input output errors = record {
  progress = record { machine = m; gained = []; out = out; err = []; status = Running };
  does = does;
  leaves = (sym same, refl);
  reads = gave_none over o.input o'.input input;
  wrote = output;
  told = took_none o.errors o'.errors errors;
  rose = tt;
}

pub goes_telling : (Is : Progress → Type 0) (new m : State) (err : List ℕ) (over : Bool) (o o' : Outside) → new ≡ m → Is (record { machine = m; gained = []; out = []; err = err; status = Running }) → o'.input ≡ o.input → o'.output ≡ o.output → o'.errors ≡ append_known o.errors err → Progresses Is None new over over o o'
goes_telling Is new m err over o o' same does input output errors = record {
  progress = record { machine = m; gained = []; out = []; err = err; status = Running };
  does = does;
  leaves = (sym same, refl);
  reads = gave_none over o.input o'.input input;
  wrote = took_none o.output o'.output output;
  told = errors;
  rose = tt;
}

pub fails_writing : (Is : Progress → Type 0) (new last : State) (out : List ℕ) (over : Bool) (o o' : Outside) → Is (record { machine = last; gained = []; out = out; err = []; status = Running }) → o'.input ≡ o.input → 0 < length out → TakesPrefix o.output o'.output out → o'.errors ≡ o.errors → HasRisen o.output_faults o'.output_faults → Progresses Is (Some ends.OutputFault) new over over o o'
fails_writing Is new last out over o o' does input some output errors rose = record {
  progress = record { machine = last; gained = []; out = out; err = []; status = Running };
  does = does;
  leaves = refl;
  reads = gave_none over o.input o'.input input;
  wrote = record { some = some; prefix = output };
  told = took_none o.errors o'.errors errors;
  rose = rose;
}

pub fails_telling : (Is : Progress → Type 0) (new last : State) (err : List ℕ) (over : Bool) (o o' : Outside) → Is (record { machine = last; gained = []; out = []; err = err; status = Running }) → o'.input ≡ o.input → o'.output ≡ o.output → 0 < length err → TakesPrefix o.errors o'.errors err → HasRisen o.errors_faults o'.errors_faults → Progresses Is (Some ends.ErrorsFault) new over over o o'
fails_telling Is new last err over o o' does input output some errors rose = record {
  progress = record { machine = last; gained = []; out = []; err = err; status = Running };
  does = does;
  leaves = refl;
  reads = gave_none over o.input o'.input input;
  wrote = took_none o.output o'.output output;
  told = record { some = some; prefix = errors };
  rose = rose;
}

pub goes_reading : (Is : Progress → Type 0) (new m : State) (gained : List ℕ) (over over' : Bool) (o o' : Outside) → new ≡ m → Is (record { machine = m; gained = gained; out = []; err = []; status = Running }) → Gave gained over over' o.input o'.input → o'.output ≡ o.output → o'.errors ≡ o.errors → Progresses Is None new over over' o o'
goes_reading Is new m gained over over' o o' same does input output errors = record {
  progress = record { machine = m; gained = gained; out = []; err = []; status = Running };
  does = does;
  leaves = (sym same, refl);
  reads = input;
  wrote = took_none o.output o'.output output;
  told = took_none o.errors o'.errors errors;
  rose = tt;
}

-- what is such is also so
progresses_so : (P Q : Progress → Type 0) (end : Option RunEnd) (new : State) (over over' : Bool) (o o' : Outside) → ((progress : Progress) → P progress → Q progress) → Progresses P end new over over' o o' → Progresses Q end new over over' o o'
progresses_so P Q end new over over' o o' so part = record {
  progress = part.progress;
  does = so part.progress part.does;
  leaves = part.leaves;
  reads = part.reads;
  wrote = part.wrote;
  told = part.told;
  rose = part.rose;
}

pub advances_so : (P Q : Progress → Type 0) (end : Option RunEnd) (new : State) (over over' : Bool) (o o' : Outside) → ((progress : Progress) → P progress → Q progress) → Advances P end new over over' o o' → Advances Q end new over over' o o'
advances_so P Q (Some ends.InputFault) new over over' o o' so part = record {
  not_over = part.not_over;
  would = part.would;
  is = so part.would part.is;
  lost = part.lost;
  fewer = part.fewer;
  gave = part.gave;
  wrote = part.wrote;
  told = part.told;
  rose = part.rose;
}
advances_so P Q (Some (ends.Limit taken)) new over over' o o' so part = part
advances_so P Q end new over over' o o' so part = progresses_so P Q end new over over' o o' so part
