-- A step answers each client once at most, and only the command that waits, under the number of its line.
use Rattle.std.proofs.Common.{◌≡◌, ◌∙◌, ℕ, ◌==◌, Bool, true, false, List, [], ◌∷◌, ◌++◌, Option, Some, None, refl, ap, sym, subst, arith, cond, append-nil}
use Rattle.std.proofs.lemmas.Bool.Decides.{nat_tests}
use Rattle.std.proofs.lemmas.List.Elements.{filter-append}
use Rattle.std.specs.BTreeMap.{is_at}
use Rattle.std.specs.Map.{lookup, remove_entry, set_value}
use Rattle.qs_base.specs.declared.identifiers.ClientNo.{ClientNo}
use Rattle.qs_book_journal.specs.declared.entry.Act.TheVariants as acts
use Rattle.qs_node_step.specs.Commands.{with_issued}
use Rattle.qs_node_step.specs.declared.state.Issued.{Issued}
use Rattle.qs_book_laws.proofs.Maps.{changed_apart, lookup_set}
use Rattle.qs_book_laws.proofs.Rising.{IsBelow, IsRising, remove_rises, removed}
use Rattle.qs_world_lawful.proofs.Answers.{client_exact}
use Rattle.qs_world_lawful.proofs.OtherShares.{removed_apart}
use Rattle.qs_ops.specs.declared.answer.Answer.{Answer}
use Rattle.qs_node_step.specs.Bringing.{answer}
use Rattle.qs_node_step.specs.State.{Work, client_cmp}
use Rattle.qs_node_step.specs.declared.event.ClientAnswer.{ClientAnswer}
use Rattle.qs_node_step.specs.declared.state.OpenCommand.{OpenCommand}
use Rattle.qs_world_one.specs.Showing.{Waiting, answers_to, is_to, its_line, line_of}

-- what becomes of a client: its line waits on, or is answered
pub data Fate (k : ClientNo) (olds news : Waiting) (said now : List ClientAnswer) : Type 0 where
  Waits : its_line k news ≡ its_line k olds → answers_to k now ≡ answers_to k said → Fate k olds news said now
  Answered : (given : ClientAnswer) → its_line k olds ≡ Some given.answer.line → its_line k news ≡ None → answers_to k now ≡ answers_to k said ++ given ∷ [] → Fate k olds news said now

pub record Went (k : ClientNo) (olds news : Waiting) (said now : List ClientAnswer) : Type 0 where
  pub rising : IsRising client_cmp olds → IsRising client_cmp news
  pub fate : IsRising client_cmp olds → Fate k olds news said now

-- keys still rise where a value is set
module _ (p : ClientNo → Bool) (w : OpenCommand) where
  set_below : (x : ClientNo) (es : Waiting) → IsBelow client_cmp x es → IsBelow client_cmp x (set_value p es w)
  set_below x [] below = tt
  set_below x (e ∷ es) below = by (p e.0) (set_below x es below.1)
    where
      by : (b : Bool) → IsBelow client_cmp x (set_value p es w) → IsBelow client_cmp x (cond b ((e.0, w) ∷ es) (e ∷ set_value p es w))
      by true more = (below.0, below.1)
      by false more = (below.0, more)

  set_rises : (es : Waiting) → IsRising client_cmp es → IsRising client_cmp (set_value p es w)
  set_rises [] rising = tt
  set_rises (e ∷ es) rising = by (p e.0) (set_rises es rising.1)
    where
      by : (b : Bool) → IsRising client_cmp (set_value p es w) → IsRising client_cmp (cond b ((e.0, w) ∷ es) (e ∷ set_value p es w))
      by true more = (rising.0, rising.1)
      by false more = (set_below e.0 es rising.0, more)

itself : (n : ℕ) → (n == n) ≡ true
itself n = grind (arith, nat_tests)

far_at : (c d : ClientNo) → (c.0 == d.0) ≡ false → (x : ClientNo) → is_at (client_cmp d) x ≡ true → is_at (client_cmp c) x ≡ false
far_at c d far x at = subst (λ (y : ClientNo). is_at (client_cmp c) y ≡ false) (client_exact d x at) (by (is_at (client_cmp c) d) refl)
  where
    by : (b : Bool) → is_at (client_cmp c) d ≡ b → b ≡ false
    by false e = refl
    by true e = absurd (cc (sym (itself c.0) ∙ (ap (λ (y : ClientNo). c.0 == y.0) (client_exact c d e) ∙ far)))

same_number : (c d : ClientNo) → (c.0 == d.0) ≡ true → c ≡ d
same_number c d e = ap (λ (n : ℕ). record { 0 = n }) (same c.0 d.0 e)
  where
    same : (a b : ℕ) → (a == b) ≡ true → a ≡ b
    same a b is = grind (arith, nat_tests, is)

joined : {k : ClientNo} {es ds cs : Waiting} {s t u : List ClientAnswer} → Fate k es ds s t → Fate k ds cs t u → Fate k es cs s u
joined (Waits l s) (Waits m t) = Waits (m ∙ l) (t ∙ s)
joined (Waits l s) (Answered a at none said) = Answered a (sym l ∙ at) none (said ∙ ap (λ (x : List ClientAnswer). x ++ a ∷ []) s)
joined (Answered a at none said) (Waits m t) = Answered a at (m ∙ none) (t ∙ said)
joined (Answered a at none said) (Answered b again more other) = absurd (cc (sym none ∙ again))

pub still : {k : ClientNo} {cs : Waiting} {s : List ClientAnswer} → Went k cs cs s s
still = record { rising = λ r. r; fate = λ r. Waits refl refl }

-- the later behind the earlier
pub after : {k : ClientNo} {es ds cs : Waiting} {s t u : List ClientAnswer} → Went k ds cs t u → Went k es ds s t → Went k es cs s u
after b a = record { rising = λ r. b.rising (a.rising r); fate = λ r. joined (a.fate r) (b.fate (a.rising r)) }

abbrev pub Goes : ClientNo → Work → Work → Type 0
Goes k work new = Went k work.node.commands new.node.commands work.out.answers new.out.answers

module _ (k : ClientNo) where
  -- a value that waits for a client is set, or goes
  set_goes : (client : ClientNo) (waits : Waiting) (said : List ClientAnswer) (command new : OpenCommand) → lookup (is_at (client_cmp client)) waits ≡ Some command → new.line.line ≡ command.line.line
      → Went k waits (set_value (is_at (client_cmp client)) waits new) said said
  set_goes client waits said command new found same = record { rising = λ r. set_rises (is_at (client_cmp client)) new waits r; fate = λ r. Waits (by (client.0 == k.0) refl) refl }
    where
      by : (b : Bool) → (client.0 == k.0) ≡ b → its_line k (set_value (is_at (client_cmp client)) waits new) ≡ its_line k waits
      by true is = subst (λ (c : ClientNo). its_line c (set_value (is_at (client_cmp client)) waits new) ≡ its_line c waits) (same_number client k is)
          (ap line_of (lookup_set (is_at (client_cmp client)) waits command new found) ∙ (ap (λ (n : ℕ). Some n) same ∙ sym (ap line_of found)))
      by false far = ap line_of (subst (λ (o : Option OpenCommand). lookup (is_at (client_cmp k)) (elim o [ None ↦ waits | Some v ↦ set_value (is_at (client_cmp client)) waits new ]) ≡ lookup (is_at (client_cmp k)) waits) found
          (changed_apart (is_at (client_cmp client)) (is_at (client_cmp k)) (far_at client k far) (λ (c : OpenCommand). new) waits))

  gone_goes : (client : ClientNo) (waits : Waiting) (said : List ClientAnswer) (command : OpenCommand) (text : Answer) → lookup (is_at (client_cmp client)) waits ≡ Some command
      → Went k waits (remove_entry (is_at (client_cmp client)) waits) said (said ++ record { client = client; answer = record { line = command.line.line; answer = text } } ∷ [])
  gone_goes client waits said command text found = record { rising = λ r. remove_rises client_cmp (is_at (client_cmp client)) waits r; fate = λ r. by (client.0 == k.0) refl r }
    where
      given : ClientAnswer
      given = record { client = client; answer = record { line = command.line.line; answer = text } }

      by : (b : Bool) → (client.0 == k.0) ≡ b → IsRising client_cmp waits → Fate k waits (remove_entry (is_at (client_cmp client)) waits) said (said ++ given ∷ [])
      by true is rising = Answered given
          (subst (λ (c : ClientNo). its_line c waits ≡ Some command.line.line) (same_number client k is) (ap line_of found))
          (subst (λ (c : ClientNo). its_line c (remove_entry (is_at (client_cmp client)) waits) ≡ None) (same_number client k is) (ap line_of (removed client_cmp client_exact client waits rising)))
          (filter-append (is_to k) said (given ∷ []) ∙ rw is refl)
      by false far rising = Waits (ap line_of (removed_apart (is_at (client_cmp client)) (is_at (client_cmp k)) (far_at client k far) waits))
          (filter-append (is_to k) said (given ∷ []) ∙ rw far (append-nil (answers_to k said)))

  pub answer_goes : (client : ClientNo) (said : Answer) (work : Work) → Goes k work (answer client said work)
  answer_goes client said work = by (lookup (is_at (client_cmp client)) work.node.commands) refl
    where
      by : (o : Option OpenCommand) → lookup (is_at (client_cmp client)) work.node.commands ≡ o → Goes k work (elim o [
        | None ↦ work
        | Some command ↦ record work {
          node = record work.node { commands = remove_entry (is_at (client_cmp client)) work.node.commands };
          out = record work.out {
            answers = work.out.answers ++ record { client = client; answer = record { line = command.line.line; answer = said } } ∷ [];
            entries = work.out.entries ++ acts.Answer client command.line.line said ∷ [];
          };
        }
      ])
      by None e = still
      by (Some command) e = gone_goes client work.node.commands work.out.answers command said e

  pub issued_goes : (client : ClientNo) (issued : Issued) (work : Work) → Goes k work (with_issued client issued work)
  issued_goes client issued work = by (lookup (is_at (client_cmp client)) work.node.commands) refl
    where
      by : (o : Option OpenCommand) → lookup (is_at (client_cmp client)) work.node.commands ≡ o
          → Went k work.node.commands (elim o [ None ↦ work.node.commands | Some command ↦ set_value (is_at (client_cmp client)) work.node.commands (record command { issued = Some issued }) ]) work.out.answers work.out.answers
      by None e = still
      by (Some command) e = set_goes client work.node.commands work.out.answers command (record command { issued = Some issued }) e refl
