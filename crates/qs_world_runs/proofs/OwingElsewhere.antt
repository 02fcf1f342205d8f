-- What a node waits for stands after entries of other nodes too: they count nothing for it, and answer none of its clients.
use Rattle.qs_world_runs.proofs.Words.{◌≡◌, ℕ, ◌==◌, ◌&&◌, ◌||◌, ◌+◌, ◌-◌, Bool, true, false, List, [], ◌∷◌, ◌++◌, refl, sym, ap, ◌∙◌, arith, nat_tests, is_at, list_any, lookup, NodeNo, Tid, peer_of, Act, Entry, answers, counts, is_count_of, client_no, client_of, waits_as, client_cmp, Outstanding, AnswersElsewhere, IsAside, Every, every_on, IsAwaited, Owes, StandsOwed}
use Rattle.qs_book_journal.specs.declared.entry.Act.TheVariants as acts
use Rattle.qs_book_laws.specs.Gone.{is_answer_to}
use Rattle.qs_node_step.specs.State.{NodeValue}
use Rattle.qs_world_runs.specs.Owing.{IsElsewhere}
use Rattle.qs_world_runs.proofs.OwingEntries.{awaited_on, uncounted_on}

module _ (n : ℕ) (node : NodeValue) (own : node.setting.node.0 ≡ n) where
  uncounted : (tid : Tid) (peer : NodeNo) (number : ℕ) (more : List Entry) → Every (IsElsewhere n node) more → list_any (counts tid peer node.setting.node number) more ≡ false
  uncounted tid peer number [] all = refl
  uncounted tid peer number (entry ∷ more) all = by (entry.node.0 == node.setting.node.0) refl (uncounted tid peer number more all.1)
    where
      same : (a b c : ℕ) → (a == b) ≡ true → b ≡ c → a ≡ c
      same a b c e f = grind (arith, nat_tests, e, f)

      by : (b : Bool) → (entry.node.0 == node.setting.node.0) ≡ b → {rest : Bool} → rest ≡ false → ((b && is_count_of tid peer number entry.act) || rest) ≡ false
      by false e rest = rest
      by true e rest = absurd (all.0.far (same entry.node.0 node.setting.node.0 n e own))

  module _ (tid : Tid) (request : Outstanding) (hand : waits_as tid request.member request.number (lookup (is_at (client_cmp (client_of request.issuer))) node.commands) ≡ true) where
    not_own : (act : Act) → AnswersElsewhere node act → is_answer_to request.issuer.0 act ≡ false
    not_own (acts.Answer client line said) none = by (client_no client.0 == request.issuer.0) refl
      where
        back : (a b : ℕ) → (a + 32 == b) ≡ true → b - 32 ≡ a
        back a b e = grind (arith, nat_tests, e)

        by : (b : Bool) → (client_no client.0 == request.issuer.0) ≡ b → b ≡ false
        by false e = refl
        by true e = absurd (cc (sym hand ∙ ap (waits_as tid request.member request.number)
            (ap (λ (k : ℕ). lookup (is_at (client_cmp (record { 0 = k }))) node.commands) (back client.0 request.issuer.0 e) ∙ none)))
    not_own act none = refl

    unanswered : (more : List Entry) → Every (IsElsewhere n node) more → list_any (answers request.issuer.0) more ≡ false
    unanswered [] all = refl
    unanswered (entry ∷ more) all = rw (not_own entry.act all.0.answers, unanswered more all.1) refl

  pub owes_on : (history more : List Entry) → Every (IsElsewhere n node) more → Owes node history → Owes node (history ++ more)
  owes_on history more all owes tid part known = record {
    uncounted = λ peer open_to. uncounted_on tid peer node.setting.node (peer_of part.engage peer).sent more (uncounted tid peer (peer_of part.engage peer).sent more all) history (s.uncounted peer open_to);
    awaited = λ undecided. every_on (IsAwaited node history tid) (IsAwaited node (history ++ more) tid) on part.waiting (s.awaited undecided);
  }
    where
      s : StandsOwed node history tid part
      s = owes tid part known

      on : (request : Outstanding) → IsAwaited node history tid request → IsAwaited node (history ++ more) tid request
      on request a = record {
        stands = awaited_on tid request.member.node request.issuer.0 more (λ other. unanswered tid request (a.in_hand other) more all) history a.stands;
        in_hand = a.in_hand;
        labelled = a.labelled;
      }

-- ---- such entries: those of a step of another node, and one by itself

pub by_step : (k : ℕ) (node : NodeValue) (entries : List Entry) → Every (IsAside k node) entries → Every (IsElsewhere k node) entries
by_step k node = every_on (IsAside k node) (IsElsewhere k node) (λ entry aside. record { far = aside.far; answers = aside.answers })

pub by_one : (k n : ℕ) → (k == n) ≡ false → (node : NodeValue) (entry : Entry) → entry.node.0 ≡ n → AnswersElsewhere node entry.act → Every (IsElsewhere k node) (entry ∷ [])
by_one k n far node entry at answers = (record { far = λ here. apart (sym here ∙ at); answers = answers }, tt)
  where
    apart : k ≡ n → ⊥
    apart same = let is : (k == n) ≡ true = grind (arith, nat_tests, same) in let both : true ≡ false = sym is ∙ far in cc both
