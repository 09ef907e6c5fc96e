-- The forms that words name, and what they name as denied. own
use Rattle.std.specs.Prelude.{◌==◌, List, [], ◌∷◌, Option, Some, None, bytes_eq, codes, option_and_then, true, false}
use Rattle.std.specs.Prelude.{if◌then◌else◌}
use Rattle.std.specs.List.{slice_split}
use Rattle.clap.specs.Words.{Text}
use Rattle.ll_program.specs.declared.denied.Denied.{Denied}
use Rattle.ll_program.specs.declared.export.Form.{Form}
use Rattle.ll_program.specs.declared.export.Form.TheVariants.{C, Json}
use Rattle.ll_program.specs.declared.report.AnswerForm.{AnswerForm}
use Rattle.ll_program.specs.declared.report.AnswerForm.TheVariants as answers
use Rattle.ll_program.specs.declared.report.ReportForm.{ReportForm}
use Rattle.ll_program.specs.declared.report.ReportForm.TheVariants.{Tap, Junit}
use Rattle.ll_program.specs.declared.report.ReportForm.TheVariants as reports

-- the form of answers with this name; without one, text
abbrev pub answer_form_by : Option Text → Option AnswerForm
answer_form_by (Some word) = if bytes_eq word (codes "json") then Some answers.Json else None
answer_form_by None = Some answers.Text

-- the form of reports with this name
abbrev pub report_form_of : Text → Option ReportForm
report_form_of word =
    if bytes_eq word (codes "tap") then Some Tap
    else if bytes_eq word (codes "junit") then Some Junit
    else if bytes_eq word (codes "json") then Some reports.Json
    else None

-- the form with this name; without one, text
abbrev pub report_form_by : Option Text → Option ReportForm
report_form_by (Some word) = report_form_of word
report_form_by None = Some reports.Text

-- the form with this name
abbrev pub form_of : Text → Option Form
form_of word =
    if bytes_eq word (codes "c") then Some C else if bytes_eq word (codes "json") then Some Json else None

abbrev pub nothing_denied : Denied
nothing_denied = record { tcp = false; ioctl_dev = false; signal = false; abstract_unix_socket = false }

-- also denies what the word names
abbrev pub denied_too : Denied → Text → Option Denied
denied_too denied word =
    if bytes_eq word (codes "tcp") then Some (record denied { tcp = true })
    else if bytes_eq word (codes "ioctl_dev") then Some (record denied { ioctl_dev = true })
    else if bytes_eq word (codes "signal") then Some (record denied { signal = true })
    else if bytes_eq word (codes "abstract_unix_socket") then Some (record denied { abstract_unix_socket = true })
    else None

abbrev pub denied_all : Denied → List Text → Option Denied
denied_all denied [] = Some denied
denied_all denied (word ∷ words) = option_and_then (λ d. denied_all d words) (denied_too denied word)

-- the list's words are separated by commas (44), and each names something
abbrev pub denied_by : Text → Option Denied
denied_by list = denied_all nothing_denied (slice_split (λ b. b == 44) list)

abbrev pub denied_of : Option Text → Option Denied
denied_of None = Some nothing_denied
denied_of (Some list) = denied_by list
