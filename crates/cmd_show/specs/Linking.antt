-- The answer of `links`.
use Rattle.std.specs.{Prelude.{◌≡◌, Bool, List, is_none, if◌then◌else◌, Result}, List.list_all}
use Rattle.echo_links.specs.LinkLines.{file_fault}
use Rattle.cmd_status.specs.{Devices.Output, declared.{fault.Fault.Fault, status.Status.{Status, TheVariants.{Good, Refused}}}, Ended.Answers}
use Rattle.cmd_show.specs.declared.linking.NamedFile.{NamedFile}

abbrev pub is_good_file : NamedFile → Bool
is_good_file file = is_none (file_fault file.bytes)

-- 2 if a file has a fault.
abbrev pub links_status : Bool → Status
links_status good = if good then Good else Refused

-- The right result of judging link files one by one: no file is refused for another, and no file stops the run.
abbrev pub LinksAnswers : List NamedFile → Output → Output → Result Status Fault → Type 0
LinksAnswers files old new answer = Answers (λ lines status. status ≡ links_status (list_all is_good_file files)) (λ fault. ⊥) old new answer
