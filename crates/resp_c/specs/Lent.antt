-- Memory of the caller after a write through the borrowed scanner.
use Rattle.std.specs.Prelude.{Some}
use Rattle.resp_scan.specs.Machine.Tokens.{Place}
use Rattle.resp_c.specs.declared.memory.RespScanner.{RespScanner}

abbrev pub with_scanner : RespScanner → Place → RespScanner
with_scanner s place = record { memory = s.memory; scanner = Some place }
