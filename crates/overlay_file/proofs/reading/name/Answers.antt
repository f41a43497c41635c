use Rattle.std.proofs.Common.{arith}
use Rattle.overlay_file.specs.Parts.{byte_where}
use Rattle.overlay_file.specs.Reading.{is_name_length, name_from}
use Rattle.overlay_file.proofs.NameLaws.{NameRoom, name_room}
use Rattle.overlay_file.proofs.reading.name.Goals as goal

pub name_between-requires : goal.name_between-requires
name_between-requires c =
    let room : NameRoom c.args.bytes.now c.args.at c.in_ok-behind.behind =
    name_room c.args.bytes.now c.args.at c.from-size.result c.in_ok-behind.behind (rw c.from-size.ensures c.in_ok-name_length.ensures) c.in_ok-behind.ensures in
    record { order = omega (arith, room.end); inside = room.inside; name = room.name }
