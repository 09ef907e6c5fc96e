-- Which device failed when a history's file can't be read or written. own
use Rattle.std.specs.Prelude.{◌≡◌, ℕ, ◌+◌, ◌^◌, ◌≤◌, true, false}
use Rattle.ll_wire.specs.Devices.{Devices, IsWhole}
use Rattle.ll_audit.specs.declared.file_audit.FileAuditFault.{FileAuditFault}
use Rattle.ll_audit.specs.declared.file_audit.FileAuditFault.TheVariants as audit
use Rattle.ll_audit.specs.declared.archive.SaveFault.{SaveFault}
use Rattle.ll_audit.specs.declared.archive.SaveFault.TheVariants as saves

-- the devices after a call that failed like this, and that was given whole ones
abbrev pub BlamesAudit : FileAuditFault → Devices → Type 0
BlamesAudit audit.Read d = (d.is_input_broken ≡ true) × (d.is_output_broken ≡ false)
BlamesAudit audit.Write d = (d.is_output_broken ≡ true) × (d.is_input_broken ≡ false)
BlamesAudit audit.NoMemory d = IsWhole d

abbrev pub BlamesSave : SaveFault → Devices → Type 0
BlamesSave saves.Write d = d.is_output_broken ≡ true
BlamesSave saves.NoMemory d = d.is_output_broken ≡ false

-- A file is being read whose lines aren't answered. At most this many reads returned bytes
abbrev pub IsReading : Devices → ℕ → Type 0
IsReading d most =
    IsWhole d × (d.is_answering ≡ false) × (d.owed ≡ 0) × (d.reads ≤ 2 ^ 62 + most)
