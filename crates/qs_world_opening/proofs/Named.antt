-- Each command that a line of a script states has a label, and lends to nobody but by the word for it.
use Rattle.std.proofs.Common.{◌≡◌, ℕ, ◌==◌, ◌&&◌, not, Bool, true, false, List, [], ◌∷◌, length, refl, if◌then◌else◌}
use Rattle.std.specs.Prelude.{codes}
use Rattle.std.specs.List.{list_all}
use Rattle.qs_base.specs.Order.{same_bytes}
use Rattle.qs_book_journal.specs.declared.script_line.Command.{Command}
use Rattle.qs_book_journal.specs.declared.script_line.Command.TheVariants as commands
use Rattle.qs_ops.specs.Servers.{audit_no, files_no, names_no, scratch_no, timers_no, windows_no}
use Rattle.qs_ops.specs.declared.operation.Op.{Op}
use Rattle.qs_ops.specs.declared.operation.Op.TheVariants as ops
use Rattle.qs_book_script.specs.Lines.{is_label, is_printable, is_skipped, words_of}
use Rattle.qs_book_script.specs.Numbers.{is_decimal}
use Rattle.qs_book_script.specs.Statements.{are_numbers_to, audit_line, client_at, client_line, client_says, command_line, crash_line, drop_line, fault_line, hold_line, is_addressed, is_kind, is_label_at, is_name_word, is_number_at, is_short, is_text_word, kind_of, led_by, lend_line, line_states, link_line, list_line, low, name_line, name_request, node_at, note_line, notes_line, number_at, other_line, point_line, quota_line, repeat_line, request, shaped, short_command, short_line, stop_line, text_line, text_request, timer_line, word_at, words_state}
use Rattle.qs_book_script.specs.declared.script.Planned.TheVariants as plans
use Rattle.qs_book_script.specs.declared.statement.Statement.{Statement}
use Rattle.qs_book_script.specs.declared.statement.Statement.TheVariants as states
use Rattle.qs_book_script.specs.declared.status.ScriptFault.TheVariants.{BadByte, BadCount, BadWord}
use Rattle.qs_world_opening.proofs.Tests.{both, parts}

abbrev pub lends_none : Command → Bool
lends_none (commands.Request member (ops.Lend client)) = false
lends_none command = true

abbrev pub is_named : Statement → Bool
is_named (states.Order client label command) = is_label label && lends_none command
is_named (states.Lend client label to) = is_label label
is_named s = true

-- ---- of each shape

abbrev Named : Statement → Type 0
Named s = is_named s ≡ true

chosen : (b : Bool) (s t : Statement) → (b ≡ true → Named s) → Named t → Named (if b then s else t)
chosen true s t one other = one refl
chosen false s t one other = other

either : (b : Bool) (s t : Statement) → Named s → Named t → Named (if b then s else t)
either b s t one other = chosen b s t (λ is. one) other

in_shape : (words : List (List ℕ)) (count : ℕ) (spelled : Bool) (s : Statement) → (spelled ≡ true → Named s) → Named (shaped words count spelled s)
in_shape words count spelled s named = either (not (length words == count)) (states.Unreadable BadCount) (if spelled then s else states.Unreadable BadWord) refl (chosen spelled s (states.Unreadable BadWord) named refl)

short_lends : (word : List ℕ) → lends_none (short_command word) ≡ true
short_lends word = by (same_bytes word (codes "begin")) (same_bytes word (codes "commit")) (same_bytes word (codes "abort")) (same_bytes word (codes "take"))
  where
    by : (a b c d : Bool) → lends_none (if a then commands.Begin else if b then commands.Commit else if c then commands.Abort else if d then commands.Take else commands.Yield) ≡ true
    by true b c d = refl
    by false true c d = refl
    by false false true d = refl
    by false false false true = refl
    by false false false false = refl

module _ (words : List (List ℕ)) where
  -- an order to a server, where the label is one
  abbrev Asks : Statement → Type 0
  Asks s = is_label_at words 2 ≡ true → Named s

  asks : (server : ℕ) (op : Op) → lends_none (commands.Request (record { node = node_at words 3; server = record { 0 = server } }) op) ≡ true → Asks (request words server op)
  asks server op lends label = both (is_label (word_at words 2)) _ label lends

  addressed : (s : Statement) → Asks s → is_addressed words ≡ true → Named s
  addressed s named is = named (parts (is_label_at words 2) (is_number_at words 3) is).0

  pick : (b : Bool) (s t : Statement) → Asks s → Asks t → Asks (if b then s else t)
  pick b s t one other label = either b s t (one label) (other label)

  text_named : (word name text : List ℕ) → Asks (text_request words word name text)
  text_named word name text = pick (same_bytes word (codes "put")) _ _ (asks files_no (ops.Put name text) refl) (pick (same_bytes word (codes "append")) _ _ (asks files_no (ops.Append name text) refl)
      (pick (same_bytes word (codes "bind")) _ _ (asks names_no (ops.Bind name text) refl) (pick (same_bytes word (codes "window")) _ _ (asks windows_no (ops.Window name text) refl) (asks scratch_no (ops.Keep name text) refl))))

  name_named : (word name : List ℕ) → Asks (name_request words word name)
  name_named word name = pick (same_bytes word (codes "get")) _ _ (asks files_no (ops.Get name) refl) (pick (same_bytes word (codes "del")) _ _ (asks files_no (ops.Del name) refl)
      (pick (same_bytes word (codes "find")) _ _ (asks names_no (ops.Find name) refl) (pick (same_bytes word (codes "left")) _ _ (asks timers_no (ops.Left name) refl)
      (pick (same_bytes word (codes "title")) _ _ (asks windows_no (ops.Title name) refl) (asks scratch_no (ops.Fetch name) refl)))))

  other_named : (word : List ℕ) → Named (other_line words word)
  other_named word = either (same_bytes word (codes "timer")) (timer_line words) _ (in_shape words 6 (is_addressed words && is_number_at words 5) (request words timers_no timer)
      (λ is. addressed (request words timers_no timer) (asks timers_no timer refl) (parts (is_addressed words) (is_number_at words 5) is).0))
      (either (same_bytes word (codes "note")) (note_line words) _ (in_shape words 5 (is_addressed words) (request words audit_no note) (addressed (request words audit_no note) (asks audit_no note refl)))
      (either (same_bytes word (codes "list")) (list_line words) _ (in_shape words 4 (is_addressed words) (request words files_no ops.Listing) (addressed (request words files_no ops.Listing) (asks files_no ops.Listing refl)))
      (either (same_bytes word (codes "notes")) (notes_line words) _ (in_shape words 4 (is_addressed words) (request words audit_no ops.Notes) (addressed (request words audit_no ops.Notes) (asks audit_no ops.Notes refl))) refl)))
    where
      timer : Op
      timer = ops.Timer (word_at words 4) (low 4294967295 (number_at words 5))

      note : Op
      note = ops.Note (word_at words 4)

  command_named : (word : List ℕ) → Named (command_line words word)
  command_named word = either (is_short word) (short_line words) _ (in_shape words 3 (is_label_at words 2) (states.Order (client_at words 0) (word_at words 2) (short_command (word_at words 1)))
      (λ label. both (is_label (word_at words 2)) (lends_none (short_command (word_at words 1))) label (short_lends (word_at words 1))))
      (either (same_bytes word (codes "lend")) (lend_line words) _ (in_shape words 4 (is_label_at words 2 && is_number_at words 3) (states.Lend (client_at words 0) (word_at words 2) (client_at words 3))
      (λ is. (parts (is_label_at words 2) (is_number_at words 3) is).0))
      (either (is_text_word word) (text_line words) _ (in_shape words 6 (is_addressed words) (text_request words (word_at words 1) (word_at words 4) (word_at words 5))
      (addressed (text_request words (word_at words 1) (word_at words 4) (word_at words 5)) (text_named (word_at words 1) (word_at words 4) (word_at words 5))))
      (either (is_name_word word) (name_line words) _ (in_shape words 5 (is_addressed words) (name_request words (word_at words 1) (word_at words 4))
      (addressed (name_request words (word_at words 1) (word_at words 4)) (name_named (word_at words 1) (word_at words 4)))) (other_named word))))

  says_named : Named (client_says words)
  says_named = either (length words == 1) (states.Unreadable BadCount) _ refl (command_named (word_at words 1))

  -- ---- lines that state no command

  link_named : (word : List ℕ) → Named (link_line words word)
  link_named word = either (same_bytes word (codes "crash")) (crash_line words) _ (in_shape words 3 (is_number_at words 1 && is_number_at words 2) (states.Fault (plans.Crash (node_at words 1) (number_at words 2))) (λ is. refl))
      (either (same_bytes word (codes "stop")) (stop_line words) _ (in_shape words 3 (is_number_at words 1 && is_number_at words 2) (states.Fault (plans.Stop (node_at words 1) (number_at words 2))) (λ is. refl))
      (either (same_bytes word (codes "drop")) (drop_line words) _ (in_shape words 4 (are_numbers_to words 3) (states.Fault (plans.Drop (node_at words 1) (node_at words 2) (number_at words 3))) (λ is. refl))
      (either (same_bytes word (codes "repeat")) (repeat_line words) _ (in_shape words 4 (are_numbers_to words 3) (states.Fault (plans.Again (node_at words 1) (node_at words 2) (number_at words 3))) (λ is. refl))
      (either (same_bytes word (codes "hold")) (hold_line words) _
      (in_shape words 5 (are_numbers_to words 3 && is_number_at words 4) (states.Fault (plans.Hold (node_at words 1) (node_at words 2) (number_at words 3) (number_at words 4))) (λ is. refl)) refl))))

  point_named : (after : Bool) → Named (point_line after words)
  point_named after = in_shape words 4 (is_number_at words 1 && (is_kind (word_at words 2) && is_label_at words 3))
      (states.Fault (plans.At (node_at words 1) (record { after = after; kind = kind_of (word_at words 2); label = word_at words 3 }))) (λ is. refl)

  fault_named : (word : List ℕ) → Named (fault_line words word)
  fault_named word = either (same_bytes word (codes "before")) (point_line false words) _ (point_named false) (either (same_bytes word (codes "after")) (point_line true words) _ (point_named true) (link_named word))

  led_named : (word : List ℕ) → Named (led_by words word)
  led_named word = either (is_decimal word) (client_says words) _ says_named
      (either (same_bytes word (codes "client")) (client_line words) _ (in_shape words 3 (is_number_at words 1 && is_number_at words 2) (states.Seated (record { client = client_at words 1; node = node_at words 2 })) (λ is. refl))
      (either (same_bytes word (codes "quota")) (quota_line words) _ (in_shape words 3 (is_number_at words 1 && is_number_at words 2) (states.Limited (record { node = node_at words 1; bytes = number_at words 2 })) (λ is. refl))
      (either (same_bytes word (codes "audit")) (audit_line words) _ (in_shape words 2 (is_number_at words 1) (states.Audited (node_at words 1)) (λ is. refl)) (fault_named word))))

  words_named : Named (words_state words)
  words_named = either (is_skipped words) states.Nothing _ refl (led_named (word_at words 0))

pub lines_named : (line : List ℕ) → is_named (line_states line) ≡ true
lines_named line = either (not (list_all is_printable line)) (states.Unreadable BadByte) _ refl (words_named (words_of line))

-- a label is not empty
pub some_label : (label : List ℕ) → is_label label ≡ true → label ≡ [] → ⊥
some_label [] is none = absurd (cc is)
some_label (x ∷ xs) is none = absurd (cc none)
