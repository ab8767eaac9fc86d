-- What a read tells without its bytes: number, source and offset of its answer.
use Rattle.desk.specs.Read.{Answer}
use Rattle.desk.specs.declared.Part.{Part}

abbrev pub part_of : Answer → Part
part_of a = record { number = a.number; source = a.source; offset = a.offset }
