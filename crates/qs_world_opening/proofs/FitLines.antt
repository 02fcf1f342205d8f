-- What holds of the commands of a script line by line: each fits the run, lines rise, labels stand apart, and who takes a transaction does not begin it.
use Rattle.std.proofs.Common.{◌≡◌, ◌⊎◌, inl, inr, ℕ, ◌+◌, ◌<◌, ◌==◌, ◌&&◌, ◌||◌, ◌++◌, not, nat_le, nat_lt, Bool, true, false, List, [], ◌∷◌, append-nil, refl, sym, ap, subst, ◌∙◌, arith, if◌then◌else◌}
use Rattle.std.specs.List.{list_all, list_any}
use Rattle.std.proofs.lemmas.Bool.{eqb-true}
use Rattle.std.proofs.lemmas.Bool.Decides.{nat_tests}
use Rattle.std.proofs.lemmas.Grind.{flat_map-append}
use Rattle.std.proofs.lemmas.List.Folds.{list_all-append, list_any-append}
use Rattle.qs_base.proofs.Same.{same_bytes-self, same_bytes-true}
use Rattle.qs_base.proofs.TidOrder.{or-false}
use Rattle.qs_base.specs.Order.{same_bytes}
use Rattle.qs_base.specs.declared.identifiers.ClientNo.{ClientNo}
use Rattle.qs_book_journal.specs.declared.script_line.Command.{Command}
use Rattle.qs_book_journal.specs.declared.script_line.Command.TheVariants as commands
use Rattle.qs_book_journal.specs.declared.script_line.ScriptLine.{ScriptLine}
use Rattle.qs_world_plans.specs.Plan.{commands_of}
use Rattle.qs_text_script.specs.Rules.{begins_line, is_begin, is_begun, is_of, is_owner, is_take, is_taker, owns_line, takes_line}
use Rattle.qs_world.specs.Openings.{are_apart, are_rising, has_label, is_command, is_line, is_script, label_begun, labels_begun}
use Rattle.qs_world_opening.proofs.Labels.{apart_more, begun_as, owned_as}
use Rattle.qs_world_opening.proofs.Rising.{before_more, clients_rise, is_before, rise_more}
use Rattle.qs_world_opening.proofs.Tests.{both, parts}

-- a command that fits the run, whatever its client begins
abbrev pub is_order : ℕ → ScriptLine → Bool
is_order nodes line = is_command nodes [] line.label line.command

pub record AreFit (nodes count : ℕ) (lines : List ScriptLine) : Type 0 where
  pub orders : list_all (is_order nodes) lines ≡ true
  pub rising : are_rising 0 lines ≡ true
  pub counted : list_all (is_before count) lines ≡ true
  pub apart : are_apart (labels_begun lines) ≡ true
  pub taken : (client : ℕ) (label : List ℕ) → is_taker lines client label ≡ true → is_begun lines label ≡ true
  pub lent : (client : ℕ) (label : List ℕ) → is_taker lines client label ≡ true → is_owner lines client label ≡ false

either : (a b : Bool) → (a || b) ≡ true → (a ≡ true) ⊎ (b ≡ true)
either true b is = inl refl
either false b is = inr is

neither : (a b : Bool) → a ≡ false → b ≡ false → (a || b) ≡ false
neither a b x y = rw (x, y) refl

first_of : (a b : Bool) → a ≡ true → (a || b) ≡ true
first_of a b is = rw is refl

last_of : (a b : Bool) → b ≡ true → (a || b) ≡ true
last_of true b is = refl
last_of false b is = is

-- no line is yet
pub none_fit : (nodes : ℕ) → AreFit nodes 0 []
none_fit nodes = record { orders = refl; rising = refl; counted = refl; apart = refl; taken = λ client label is. absurd (cc is); lent = λ client label is. refl }

-- a line that states no command
pub same_fit : (nodes count : ℕ) (lines : List ScriptLine) → AreFit nodes count lines → AreFit nodes (count + 1) lines
same_fit nodes count lines fit = record {
  orders = fit.orders;
  rising = fit.rising;
  counted = before_more lines count (count + 1) (grind (arith)) fit.counted;
  apart = fit.apart;
  taken = fit.taken;
  lent = fit.lent;
}

-- ---- one more command

any_more : (test : ScriptLine → Bool) (lines : List ScriptLine) (line : ScriptLine) → list_any test (lines ++ line ∷ []) ≡ (list_any test lines || test line)
any_more test lines line = list_any-append test lines (line ∷ []) ∙ ap (λ b. list_any test lines || b) (or-false (test line))

all_more : (test : ScriptLine → Bool) (lines : List ScriptLine) (line : ScriptLine) → list_all test lines ≡ true → test line ≡ true → list_all test (lines ++ line ∷ []) ≡ true
all_more test lines line all one = list_all-append test lines (line ∷ []) ∙ both (list_all test lines) (test line && true) all (both (test line) true one refl)

-- a label that is begun was not begun before
labels_more : (lines : List ScriptLine) (client : ClientNo) (number : ℕ) (label : List ℕ) (command : Command) → are_apart (labels_begun lines) ≡ true → (is_begin command ≡ true → is_begun lines label ≡ false)
    → are_apart (labels_begun lines ++ label_begun (record { client = client; line = number; label = label; command = command })) ≡ true
labels_more lines client number label commands.Begin apart new = apart_more (labels_begun lines) label apart (begun_as label lines ∙ new refl)
labels_more lines client number label commands.Commit apart new = ap are_apart (append-nil (labels_begun lines)) ∙ apart
labels_more lines client number label commands.Abort apart new = ap are_apart (append-nil (labels_begun lines)) ∙ apart
labels_more lines client number label commands.Take apart new = ap are_apart (append-nil (labels_begun lines)) ∙ apart
labels_more lines client number label commands.Yield apart new = ap are_apart (append-nil (labels_begun lines)) ∙ apart
labels_more lines client number label (commands.Request member op) apart new = ap are_apart (append-nil (labels_begun lines)) ∙ apart

not_both : (command : Command) → is_begin command ≡ true → is_take command ≡ true → ⊥
not_both commands.Begin begins takes = cc takes
not_both commands.Commit begins takes = cc takes
not_both commands.Abort begins takes = cc takes
not_both commands.Take begins takes = cc begins
not_both commands.Yield begins takes = cc takes
not_both (commands.Request member op) begins takes = cc takes

module _ (nodes count : ℕ) (lines : List ScriptLine) (fit : AreFit nodes count lines) (line : ScriptLine) (next : line.line ≡ count + 1) (order : is_order nodes line ≡ true)
    (new : is_begin line.command ≡ true → is_begun lines line.label ≡ false)
    (loan : is_take line.command ≡ true → (is_begun lines line.label ≡ true) × (is_owner lines line.client.0 line.label ≡ false)) where
  abbrev after : List ScriptLine
  after = lines ++ line ∷ []

  apart_then : are_apart (labels_begun after) ≡ true
  apart_then = ap are_apart (flat_map-append label_begun lines (line ∷ []) ∙ ap (λ ls. labels_begun lines ++ ls) (append-nil (label_begun line)))
      ∙ labels_more lines line.client line.line line.label line.command fit.apart new

  -- what the line takes
  module _ (client : ℕ) (label : List ℕ) where
    same : is_of client label line ≡ true → (line.client.0 ≡ client) × (line.label ≡ label)
    same is = let p = parts (line.client.0 == client) (same_bytes line.label label) is in (eqb-true line.client.0 client p.0, same_bytes-true line.label label p.1)

    takes : takes_line client label line ≡ true → (is_begun lines label ≡ true) × (is_owner lines client label ≡ false)
    takes is = let p = parts (is_take line.command) (is_of client label line) is in let s = same p.1 in let l = loan p.0 in
        (subst (λ (x : List ℕ). is_begun lines x ≡ true) s.1 l.0, subst (λ (x : List ℕ). is_owner lines client x ≡ false) s.1 (subst (λ (k : ℕ). is_owner lines k line.label ≡ false) s.0 l.1))

    known : is_taker after client label ≡ true → is_begun lines label ≡ true
    known is = by (either (is_taker lines client label) (takes_line client label line) (sym (any_more (takes_line client label) lines line) ∙ is))
      where
        by : (is_taker lines client label ≡ true) ⊎ (takes_line client label line ≡ true) → is_begun lines label ≡ true
        by (inl old) = fit.taken client label old
        by (inr now) = (takes now).0

    taken_then : is_taker after client label ≡ true → is_begun after label ≡ true
    taken_then is = any_more (begins_line label) lines line ∙ first_of (is_begun lines label) (begins_line label line) (known is)

    -- it begins nothing that is begun
    owns_none : is_begun lines label ≡ true → owns_line client label line ≡ false
    owns_none begun = by (owns_line client label line) refl
      where
        by : (b : Bool) → owns_line client label line ≡ b → b ≡ false
        by false off = refl
        by true on = absurd (let p = parts (is_begin line.command) (is_of client label line) on in
            let none : is_begun lines label ≡ false = subst (λ (x : List ℕ). is_begun lines x ≡ false) (same p.1).1 (new p.0) in cc (begun, none))

    lent_then : is_taker after client label ≡ true → is_owner after client label ≡ false
    lent_then is = any_more (owns_line client label) lines line ∙ neither (is_owner lines client label) (owns_line client label line)
        (by (either (is_taker lines client label) (takes_line client label line) (sym (any_more (takes_line client label) lines line) ∙ is))) (owns_none (known is))
      where
        by : (is_taker lines client label ≡ true) ⊎ (takes_line client label line ≡ true) → is_owner lines client label ≡ false
        by (inl old) = fit.lent client label old
        by (inr now) = (takes now).1

  pub one_more : AreFit nodes (count + 1) after
  one_more = record {
    orders = all_more (is_order nodes) lines line fit.orders order;
    rising = rise_more lines 0 count line fit.rising fit.counted (grind (arith)) (subst (λ (n : ℕ). count < n) (sym next) (grind (arith)));
    counted = all_more (is_before (count + 1)) lines line (before_more lines count (count + 1) (grind (arith)) fit.counted) (subst (λ (n : ℕ). nat_le n (count + 1) ≡ true) (sym next) (at_most (count + 1)));
    apart = apart_then;
    taken = taken_then;
    lent = lent_then;
  }
    where
      at_most : (n : ℕ) → nat_le n n ≡ true
      at_most n = grind (arith, nat_tests)

-- ---- the lines of one client

-- no line takes what is among these
abbrev Takes : ℕ → List (List ℕ) → List ScriptLine → Type 0
Takes client begun lines = (label : List ℕ) → is_taker lines client label ≡ true → has_label begun label ≡ false

command_so : (nodes : ℕ) (begun : List (List ℕ)) (label : List ℕ) (command : Command) → is_command nodes [] label command ≡ true → (is_take command ≡ true → has_label begun label ≡ false) → is_command nodes begun label command ≡ true
command_so nodes begun label commands.Begin fit none = refl
command_so nodes begun label commands.Commit fit none = refl
command_so nodes begun label commands.Abort fit none = refl
command_so nodes begun label commands.Take fit none = ap not (none refl)
command_so nodes begun label commands.Yield fit none = refl
command_so nodes begun label (commands.Request member op) fit none = fit

lines_so : (nodes : ℕ) (client : ClientNo) (begun : List (List ℕ)) (lines : List ScriptLine) → list_all (is_order nodes) lines ≡ true → Takes client.0 begun lines
    → list_all (is_line nodes client.0 begun) (commands_of client lines) ≡ true
lines_so nodes client begun [] fit none = refl
lines_so nodes client begun (line ∷ lines) fit none = by (line.client.0 == client.0) refl (lines_so nodes client begun lines p.1 (λ label its. none label (last_of (takes_line client.0 label line) (is_taker lines client.0 label) its)))
  where
    p : (is_order nodes line ≡ true) × (list_all (is_order nodes) lines ≡ true)
    p = parts (is_order nodes line) (list_all (is_order nodes) lines) fit

    here : (line.client.0 == client.0) ≡ true → is_take line.command ≡ true → has_label begun line.label ≡ false
    here its take = none line.label (first_of (takes_line client.0 line.label line) (is_taker lines client.0 line.label)
        (both (is_take line.command) (is_of client.0 line.label line) take (both (line.client.0 == client.0) (same_bytes line.label line.label) its (same_bytes-self line.label))))

    by : (b : Bool) → (line.client.0 == client.0) ≡ b → list_all (is_line nodes client.0 begun) (commands_of client lines) ≡ true
        → list_all (is_line nodes client.0 begun) ((if b then line ∷ [] else []) ++ commands_of client lines) ≡ true
    by true its rest = both (is_line nodes client.0 begun line) (list_all (is_line nodes client.0 begun) (commands_of client lines))
        (both (line.client.0 == client.0) (is_command nodes begun line.label line.command) its (command_so nodes begun line.label line.command p.0 (here its))) rest
    by false other rest = rest

pub client_fit : (nodes count at : ℕ) (client : ClientNo) (lines : List ScriptLine) → AreFit nodes count lines → nat_lt at nodes ≡ true → is_script nodes client.0 (at, commands_of client lines) ≡ true
client_fit nodes count at client lines fit low = both (nat_lt at nodes) _ low (both (are_rising 0 (commands_of client lines)) _ (clients_rise client lines 0 fit.rising)
    (lines_so nodes client (labels_begun (commands_of client lines)) lines fit.orders (λ label is. owned_as label client lines ∙ fit.lent client.0 label is)))
