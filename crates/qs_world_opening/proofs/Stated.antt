-- Each request that a line of a script states goes to the server whose operation it is: the words of the line choose both.
use Rattle.std.proofs.Common.{◌≡◌, ℕ, ◌==◌, ◌&&◌, not, Bool, true, false, List, length, refl, if◌then◌else◌}
use Rattle.std.specs.Prelude.{codes}
use Rattle.std.specs.List.{list_all}
use Rattle.qs_base.specs.Order.{same_bytes}
use Rattle.qs_ipc.specs.Queue.{is_for}
use Rattle.qs_book_journal.specs.declared.script_line.Command.{Command}
use Rattle.qs_book_journal.specs.declared.script_line.Command.TheVariants as commands
use Rattle.qs_ops.specs.Servers.{audit_no, files_no, timers_no}
use Rattle.qs_ops.specs.declared.operation.Op.TheVariants as ops
use Rattle.qs_book_script.specs.Lines.{is_printable, is_skipped, words_of}
use Rattle.qs_book_script.specs.Numbers.{is_decimal}
use Rattle.qs_book_script.specs.Statements.{are_numbers_to, audit_line, client_at, client_line, client_says, command_line, crash_line, drop_line, fault_line, hold_line, is_addressed, is_kind, is_label_at, is_name_word, is_number_at, is_short, is_text_word, kind_of, led_by, lend_line, line_states, link_line, list_line, low, name_line, name_request, node_at, note_line, notes_line, number_at, other_line, point_line, quota_line, repeat_line, request, shaped, short_command, short_line, stop_line, text_line, text_request, timer_line, word_at, words_state}
use Rattle.qs_book_script.specs.declared.script.Planned.TheVariants as plans
use Rattle.qs_book_script.specs.declared.statement.Statement.{Statement}
use Rattle.qs_book_script.specs.declared.statement.Statement.TheVariants as states
use Rattle.qs_book_script.specs.declared.status.ScriptFault.TheVariants.{BadByte, BadCount, BadWord}

-- a request, if the statement is one, is for its server
abbrev pub is_own_order : Command → Bool
is_own_order commands.Begin = true
is_own_order commands.Commit = true
is_own_order commands.Abort = true
is_own_order commands.Take = true
is_own_order commands.Yield = true
is_own_order (commands.Request member op) = is_for member.server op

abbrev pub is_own : Statement → Bool
is_own states.Nothing = true
is_own (states.Seated seat) = true
is_own (states.Limited quota) = true
is_own (states.Audited node) = true
is_own (states.Fault planned) = true
is_own (states.Order client label command) = is_own_order command
is_own (states.Lend client label to) = true
is_own (states.Unreadable fault) = true

-- ---- of each shape

abbrev Own : Statement → Type 0
Own s = is_own s ≡ true

chosen : (b : Bool) (s t : Statement) → Own s → Own t → Own (if b then s else t)
chosen true s t one other = one
chosen false s t one other = other

in_shape : (words : List (List ℕ)) (count : ℕ) (spelled : Bool) (s : Statement) → Own s → Own (shaped words count spelled s)
in_shape words count spelled s own = chosen (not (length words == count)) (states.Unreadable BadCount) (if spelled then s else states.Unreadable BadWord) refl (chosen spelled s (states.Unreadable BadWord) own refl)

short_own : (word : List ℕ) → is_own_order (short_command word) ≡ true
short_own word = by (same_bytes word (codes "begin")) (same_bytes word (codes "commit")) (same_bytes word (codes "abort")) (same_bytes word (codes "take"))
  where
    by : (a b c d : Bool) → is_own_order (if a then commands.Begin else if b then commands.Commit else if c then commands.Abort else if d then commands.Take else commands.Yield) ≡ true
    by true b c d = refl
    by false true c d = refl
    by false false true d = refl
    by false false false true = refl
    by false false false false = refl

module _ (words : List (List ℕ)) where
  text_own : (word name text : List ℕ) → Own (text_request words word name text)
  text_own word name text = chosen (same_bytes word (codes "put")) _ _ refl (chosen (same_bytes word (codes "append")) _ _ refl (chosen (same_bytes word (codes "bind")) _ _ refl (chosen (same_bytes word (codes "window")) _ _ refl refl)))

  name_own : (word name : List ℕ) → Own (name_request words word name)
  name_own word name = chosen (same_bytes word (codes "get")) _ _ refl (chosen (same_bytes word (codes "del")) _ _ refl (chosen (same_bytes word (codes "find")) _ _ refl
      (chosen (same_bytes word (codes "left")) _ _ refl (chosen (same_bytes word (codes "title")) _ _ refl refl))))

  other_own : (word : List ℕ) → Own (other_line words word)
  other_own word = chosen (same_bytes word (codes "timer")) (timer_line words) _ (in_shape words 6 (is_addressed words && is_number_at words 5) (request words timers_no (ops.Timer (word_at words 4) (low 4294967295 (number_at words 5)))) refl)
      (chosen (same_bytes word (codes "note")) (note_line words) _ (in_shape words 5 (is_addressed words) (request words audit_no (ops.Note (word_at words 4))) refl)
      (chosen (same_bytes word (codes "list")) (list_line words) _ (in_shape words 4 (is_addressed words) (request words files_no ops.Listing) refl)
      (chosen (same_bytes word (codes "notes")) (notes_line words) _ (in_shape words 4 (is_addressed words) (request words audit_no ops.Notes) refl) refl)))

  command_own : (word : List ℕ) → Own (command_line words word)
  command_own word = chosen (is_short word) (short_line words) _ (in_shape words 3 (is_label_at words 2) (states.Order (client_at words 0) (word_at words 2) (short_command (word_at words 1))) (short_own (word_at words 1)))
      (chosen (same_bytes word (codes "lend")) (lend_line words) _ (in_shape words 4 (is_label_at words 2 && is_number_at words 3) (states.Lend (client_at words 0) (word_at words 2) (client_at words 3)) refl)
      (chosen (is_text_word word) (text_line words) _ (in_shape words 6 (is_addressed words) (text_request words (word_at words 1) (word_at words 4) (word_at words 5)) (text_own (word_at words 1) (word_at words 4) (word_at words 5)))
      (chosen (is_name_word word) (name_line words) _ (in_shape words 5 (is_addressed words) (name_request words (word_at words 1) (word_at words 4)) (name_own (word_at words 1) (word_at words 4))) (other_own word))))

  says_own : Own (client_says words)
  says_own = chosen (length words == 1) (states.Unreadable BadCount) _ refl (command_own (word_at words 1))

  -- ---- lines that state no command

  link_own : (word : List ℕ) → Own (link_line words word)
  link_own word = chosen (same_bytes word (codes "crash")) (crash_line words) _ (in_shape words 3 (is_number_at words 1 && is_number_at words 2) (states.Fault (plans.Crash (node_at words 1) (number_at words 2))) refl)
      (chosen (same_bytes word (codes "stop")) (stop_line words) _ (in_shape words 3 (is_number_at words 1 && is_number_at words 2) (states.Fault (plans.Stop (node_at words 1) (number_at words 2))) refl)
      (chosen (same_bytes word (codes "drop")) (drop_line words) _ (in_shape words 4 (are_numbers_to words 3) (states.Fault (plans.Drop (node_at words 1) (node_at words 2) (number_at words 3))) refl)
      (chosen (same_bytes word (codes "repeat")) (repeat_line words) _ (in_shape words 4 (are_numbers_to words 3) (states.Fault (plans.Again (node_at words 1) (node_at words 2) (number_at words 3))) refl)
      (chosen (same_bytes word (codes "hold")) (hold_line words) _ (in_shape words 5 (are_numbers_to words 3 && is_number_at words 4) (states.Fault (plans.Hold (node_at words 1) (node_at words 2) (number_at words 3) (number_at words 4))) refl) refl))))

  point_own : (after : Bool) → Own (point_line after words)
  point_own after = in_shape words 4 (is_number_at words 1 && (is_kind (word_at words 2) && is_label_at words 3)) (states.Fault (plans.At (node_at words 1) (record { after = after; kind = kind_of (word_at words 2); label = word_at words 3 }))) refl

  fault_own : (word : List ℕ) → Own (fault_line words word)
  fault_own word = chosen (same_bytes word (codes "before")) (point_line false words) _ (point_own false) (chosen (same_bytes word (codes "after")) (point_line true words) _ (point_own true) (link_own word))

  led_own : (word : List ℕ) → Own (led_by words word)
  led_own word = chosen (is_decimal word) (client_says words) _ says_own
      (chosen (same_bytes word (codes "client")) (client_line words) _ (in_shape words 3 (is_number_at words 1 && is_number_at words 2) (states.Seated (record { client = client_at words 1; node = node_at words 2 })) refl)
      (chosen (same_bytes word (codes "quota")) (quota_line words) _ (in_shape words 3 (is_number_at words 1 && is_number_at words 2) (states.Limited (record { node = node_at words 1; bytes = number_at words 2 })) refl)
      (chosen (same_bytes word (codes "audit")) (audit_line words) _ (in_shape words 2 (is_number_at words 1) (states.Audited (node_at words 1)) refl) (fault_own word))))

  words_own : Own (words_state words)
  words_own = chosen (is_skipped words) states.Nothing _ refl (led_own (word_at words 0))

pub lines_own : (line : List ℕ) → is_own (line_states line) ≡ true
lines_own line = chosen (not (list_all is_printable line)) (states.Unreadable BadByte) _ refl (words_own (words_of line))
