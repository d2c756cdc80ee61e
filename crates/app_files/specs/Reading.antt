-- Faults of the readers of files.
use Rattle.std.specs.declared.io.ErrorKind.{ErrorKind}
use Rattle.std.specs.declared.io.ErrorKind.TheVariants as kind
use Rattle.app_files.specs.declared.reading.ReadFault.{ReadFault}
use Rattle.app_files.specs.declared.reading.ReadFault.TheVariants.{Broken, NoMemory}

-- The fault of a reader's error: out of memory, or otherwise a broken reader.
abbrev pub read_fault : ErrorKind → ReadFault
read_fault kind.OutOfMemory = NoMemory
read_fault _ = Broken
