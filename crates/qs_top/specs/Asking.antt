-- What words ask for, as far as it is carried out at this stage.
use Rattle.std.specs.Prelude.{ℕ, Bool, true, false, ◌&&◌, nat_le, Option, Some, None, if◌then◌else◌}
use Rattle.qs_text.specs.declared.given.Shown.{Shown}
use Rattle.qs_text.specs.declared.given.Shown.TheVariants as shows
use Rattle.qs_text_script.specs.declared.form.Form.{Form}
use Rattle.qs_text_script.specs.declared.form.Form.TheVariants as forms
use Rattle.qs_top.specs.declared.asking.Asked.{Asked}
use Rattle.qs_top.specs.declared.asking.Asked.TheVariants as asked

-- a run of so many nodes, at most eight, in one thread, whose order is drawn from a seed
abbrev pub serial_run : ℕ → ℕ → Shown → Option Asked
serial_run nodes seed shown = if nat_le 1 nodes && nat_le nodes 8 then Some (asked.Serial nodes seed shown) else None

-- with the history, or without
abbrev pub shown_with : Bool → Shown
shown_with true = shows.Journal
shown_with false = shows.Output

-- of runs those with a seed; a load is one of four nodes, of the seed of its script
abbrev pub asked_in : Form → Option Asked
asked_in (forms.Run nodes None journal) = None
asked_in (forms.Run nodes (Some seed) journal) = serial_run nodes seed (shown_with journal)
asked_in forms.Check = Some asked.Check
asked_in (forms.Load seed) = Some (asked.Serial 4 seed (shows.Load seed))

abbrev pub asked_by : Option Form → Option Asked
asked_by None = None
asked_by (Some form) = asked_in form

-- how many nodes a run has, where one is asked for
abbrev pub nodes_of : Option Asked → ℕ
nodes_of (Some (asked.Serial nodes seed shown)) = nodes
nodes_of (Some asked.Check) = 0
nodes_of None = 0
