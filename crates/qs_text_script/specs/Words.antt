-- The form that the words after the program's name are of.
use Rattle.std.specs.Prelude.{ℕ, true, false, ◌&&◌, Bool, List, [], ◌∷◌, length, take, drop, Option, Some, None, is_none, nat_lt, nat_le, codes, String, string_bytes, if◌then◌else◌}
use Rattle.std.specs.Global.{Global}
use Rattle.qs_base.specs.Order.{same_bytes}
use Rattle.qs_text_script.specs.declared.form.Form.{Form}
use Rattle.qs_text_script.specs.declared.form.Form.TheVariants.{Run, Check, Load}
use Rattle.qs_text_script.specs.declared.words.Options.{Options}
use Rattle.qs_book_script.specs.Numbers.{number_of}

-- N, from 1 to 8, is said once
abbrev pub with_nodes : Options → Option ℕ → Option Options
with_nodes options None = None
with_nodes options (Some nodes) =
    if is_none options.nodes && (nat_lt 0 nodes && nat_le nodes 8) then Some (record options { nodes = Some nodes }) else None

-- SEED, a number of 64 bits, is said once at most
abbrev pub with_serial : Options → Option ℕ → Option Options
with_serial options None = None
with_serial options (Some seed) =
    if is_none options.serial then Some (record options { serial = Some seed; seed_due = false }) else None

-- so is --journal
abbrev pub with_journal : Options → Option Options
with_journal options = if options.journal then None else Some (record options { journal = true })

abbrev pub is_seed_word : List ℕ → Bool
is_seed_word word = nat_le 9 (length word) && same_bytes (take 9 word) (codes "--serial=")

-- with one more word: N, --journal, --serial before its SEED, or --serial=SEED; another word is no number either
abbrev pub with_option : Options → List ℕ → Option Options
with_option options word =
    if same_bytes word (codes "--journal") then with_journal options
    else if same_bytes word (codes "--serial") then Some (record options { seed_due = true })
    else if is_seed_word word then with_serial options (number_of (drop 9 word))
    else with_nodes options (number_of word)

-- behind --serial stands SEED
abbrev pub with_word : Options → List ℕ → Option Options
with_word options word = if options.seed_due then with_serial options (number_of word) else with_option options word

-- what words say, behind what others said
abbrev pub options_of : Options → List (String Global) → Option Options
options_of options [] = Some options
options_of options (word ∷ words) = elim (with_word options (string_bytes word)) [ None ↦ None | Some more ↦ options_of more words ]

abbrev pub no_options : Options
no_options = record { nodes = None; serial = None; journal = false; seed_due = false }

abbrev pub run_with : Options → Option ℕ → Option Form
run_with options None = None
run_with options (Some nodes) = if options.seed_due then None else Some (Run nodes options.serial options.journal)

-- run, and in any order N and the options
abbrev pub run_form : Option Options → Option Form
run_form None = None
run_form (Some options) = run_with options options.nodes

abbrev pub check_form : List (String Global) → Option Form
check_form [] = Some Check
check_form (word ∷ words) = None

abbrev pub load_with : Option ℕ → Option Form
load_with None = None
load_with (Some seed) = Some (Load seed)

-- load has SEED behind it, and nothing more
abbrev pub load_form : List (String Global) → Option Form
load_form (word ∷ []) = load_with (number_of (string_bytes word))
load_form words = None

-- the form that begins with that word
abbrev pub form_with : List ℕ → List (String Global) → Option Form
form_with first words =
    if same_bytes first (codes "run") then run_form (options_of no_options words)
    else if same_bytes first (codes "check") then check_form words
    else if same_bytes first (codes "load") then load_form words
    else None

-- run N [--serial SEED] [--journal], check, or load SEED
abbrev pub form_of : List (String Global) → Option Form
form_of [] = None
form_of (first ∷ words) = form_with (string_bytes first) words
