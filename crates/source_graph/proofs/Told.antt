-- Facts on a folder where it is told.
use Rattle.std.proofs.Common.{Option, None, Some, IfSome}
use Rattle.tp_outside.specs.Folder.{Folder}

pub told : (known : Option Folder) (P Q : Folder → Type 0) → ((held : Folder) → P held → Q held) → IfSome known P → IfSome known Q
told None P Q f p = tt
told (Some held) P Q f p = f held p

pub told_both : (known : Option Folder) (P Q R : Folder → Type 0) → ((held : Folder) → P held → Q held → R held) → IfSome known P → IfSome known Q → IfSome known R
told_both None P Q R f p q = tt
told_both (Some held) P Q R f p q = f held p q

pub told_all : (known : Option Folder) (P : Folder → Type 0) → ((held : Folder) → P held) → IfSome known P
told_all None P f = tt
told_all (Some held) P f = f held
