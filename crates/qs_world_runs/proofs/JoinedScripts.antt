-- After a step the machine has the scripts of all clients: a client that is answered goes on to its next line, and what is in hand at the node
-- is its client's first line.
use Rattle.qs_world_runs.proofs.Words.{◌≡◌, ℕ, ◌<◌, ◌==◌, Bool, true, false, List, [], ◌∷◌, drop, suc, Some, refl, sym, ap, subst, ◌∙◌, arith, nat_lt, if◌then◌else◌, slice_get, is_at, list_any, lookup, eqb-true, ltb-true, nat_tests, ClientNo, Act, ScriptLine, IsRising, BookValue, book_after, client_cmp, after_step, effects_of, ClientAnswer, Event, OpenCommand, Source, client_count, event_of, handed_by, step_with, stepped_host, taken_by, IsOpening, are_rising, labels_begun, same_label}
use Rattle.qs_world_runs.proofs.Words.{entries_of, Client, Opening, World, up_taken, up_all, Every, HoldsScripts, every_on, right_true, IsOfOpen, with_event, ClientsAt, IsOwnClient, equal_apart}
use Rattle.qs_book_journal.specs.declared.entry.Act.TheVariants as acts
use Rattle.qs_node_step.specs.State.{NodeValue}
use Rattle.qs_world.specs.Openings.{are_apart}
use Rattle.qs_world.specs.Posting.{answered, is_answer_to}
use Rattle.qs_world_lawful.specs.Scripts.{AreBehind, HoldsClient, IsFresh, IsInHand, IsRest}
use Rattle.qs_world_lawful.specs.WayLaws.{BeginsNone, HoldsScript, IsOther, IsSilentTo, LeavesScript}
use Rattle.qs_world_lawful.proofs.OtherScripts.{scripts_left}
use Rattle.qs_world_runs.specs.Answering.{BeginsOpen, IsOpenStill, WasOpen}
use Rattle.qs_world_runs.proofs.JoinedClients as step
use Rattle.qs_world_runs.proofs.LabelsApart.{IsBehind, apart_left, behind_of, earlier_other, own_other, pairs}
use Rattle.qs_world_runs.proofs.ScriptsAnswered.{AnswersAs, IsPast, Passes, all_passed, behind_past, past_of}
use Rattle.qs_world_runs.proofs.LinesLeft.{at_handed, begun_first, behind_first, drop_more, first_of, later, lines_handed, same_turned}

module _ (o : Opening) (opens : IsOpening o) (book : BookValue) (world : World) (n stamp free : ℕ) (source : Source) (event : Event) (comes : event_of world n stamp source ≡ Some event)
    (scripts : HoldsScripts o book world) (clients : ClientsAt world) (sized : world.size ≡ o.size) (low : n < world.size) (up : world.channels.up n ≡ true)
    (nodes : (world.hosts n).node.setting.nodes ≡ world.size) (rising : IsRising client_cmp (world.hosts n).node.commands) where
  abbrev node : NodeValue
  node = (world.hosts n).node

  abbrev new : World
  new = step_with world n stamp free source (Some event)

  abbrev now : BookValue
  now = book_after book (entries_of n stamp (effects_of node event free).entries)

  abbrev said : List ClientAnswer
  said = (effects_of node event free).answers

  abbrev was : List (ClientNo × OpenCommand)
  was = with_event event node.commands

  abbrev cs : ℕ → Client
  cs k = handed_by source world.clients k

  abbrev left : ℕ → List (List ℕ)
  left k = labels_begun (world.clients k).lines

  abbrev In : ClientNo → OpenCommand → Type 0
  In client old = step.WasInHand o opens book world n stamp free source event comes scripts clients sized low up nodes rising source client old

  in_hand : (client : ClientNo) (old : OpenCommand) → lookup (is_at (client_cmp client)) was ≡ Some old → In client old
  in_hand client old there = step.in_hand o opens book world n stamp free source event comes scripts clients sized low up nodes rising client old there

  entries_so : Every (IsOfOpen was said) (effects_of node event free).entries
  entries_so = (step.answering o opens book world n stamp free source event comes scripts clients sized low up nodes rising).entries

  still : (client : ClientNo) (command : OpenCommand) → lookup (is_at (client_cmp client)) (after_step node event free).commands ≡ Some command → IsOpenStill was said client command
  still client command is = (step.answering o opens book world n stamp free source event comes scripts clients sized low up nodes rising).still client command is

  were : (k : ℕ) → list_any (is_answer_to k) said ≡ true → WasOpen was (record { 0 = k })
  were k is = (step.answering o opens book world n stamp free source event comes scripts clients sized low up nodes rising).were k is

  below : (k : ℕ) → nat_lt k client_count ≡ true → k < client_count
  below k small = grind (arith, nat_tests, small)

  -- ---- what begins has a label of its own

  begun : (client : ClientNo) (label : List ℕ) (b : BeginsOpen was said client label) → left client.0 ≡ label ∷ labels_begun (drop 1 (world.clients client.0).lines)
  begun client label b = begun_first (world.clients client.0).lines b.old.line (in_hand client b.old b.there).first b.begins ∙ ap (λ (l : List ℕ). l ∷ labels_begun (drop 1 (world.clients client.0).lines)) b.label_is

  each_turned : (label : List ℕ) (ys : List (List ℕ)) → Every (λ (y : List ℕ). same_label label y ≡ false) ys → Every (IsOther label) ys
  each_turned label ys all = every_on (λ (y : List ℕ). same_label label y ≡ false) (IsOther label) (λ y is. same_turned label y is) ys all

  other_client : (k : ℕ) → nat_lt k client_count ≡ true → (client : ClientNo) (label : List ℕ) → BeginsOpen was said client label → (client.0 == k) ≡ false → Every (IsOther label) (left k)
  other_client k small client label b far = by (nat_lt client.0 k) refl
    where
      c_small : client.0 < client_count
      c_small = below client.0 (in_hand client b.old b.there).own.small

      heads : (xs : List (List ℕ)) → left client.0 ≡ label ∷ xs → Every (λ (x : List ℕ). Every (λ (y : List ℕ). same_label x y ≡ false) (left client.0)) (left k) → Every (IsOther label) (left k)
      heads xs is all = every_on (λ (x : List ℕ). Every (λ (y : List ℕ). same_label x y ≡ false) (left client.0)) (IsOther label)
          (λ x each. (subst (λ (ys : List (List ℕ)). Every (λ (y : List ℕ). same_label x y ≡ false) ys) is each).0) (left k) all

      by : (c : Bool) → nat_lt client.0 k ≡ c → Every (IsOther label) (left k)
      by true is = each_turned label (left k) (subst (λ (xs : List (List ℕ)). Every (λ (x : List ℕ). Every (λ (y : List ℕ). same_label x y ≡ false) (left k)) xs) (begun client label b)
          (earlier_other client_count left scripts.apart client.0 k (ltb-true client.0 k is) (below k small))).0
      by false is = heads (labels_begun (drop 1 (world.clients client.0).lines)) (begun client label b) (earlier_other client_count left scripts.apart k client.0 (later client.0 k is far) c_small)

  own_rest : (client : ClientNo) (label : List ℕ) → BeginsOpen was said client label → Every (IsOther label) (labels_begun (drop 1 (world.clients client.0).lines))
  own_rest client label b = each_turned label (labels_begun (drop 1 (world.clients client.0).lines))
      (pairs (label ∷ []) (labels_begun (drop 1 (world.clients client.0).lines)) (ap are_apart (sym (begun client label b)) ∙ own_other client_count left scripts.apart client.0 (below client.0 (in_hand client b.old b.there).own.small))).0

  -- ---- one client, as it is after the step

  pub record ClientNow (k : ℕ) (c : Client) : Type 0 where
    pub at : c.at ≡ (o.clients k).0
    pub rest : IsRest (o.clients k).1 c.lines
    pub behind : AreBehind now k c.lines
    pub fresh : Every (IsFresh now) (labels_begun c.lines)
    pub in_hand : (m : ℕ) → nat_lt m world.size ≡ true → new.channels.up m ≡ true → (command : OpenCommand) → lookup (is_at (client_cmp (record { 0 = k }))) (new.hosts m).node.commands ≡ Some command → (c.at ≡ m) × IsInHand c (Some command)

  ups : (m : ℕ) → new.channels.up m ≡ true → world.channels.up m ≡ true
  ups m on = sym (ap (λ (f : ℕ → Bool). f m) (up_all n stamp (effects_of node event free).messages (taken_by world n source) ∙ up_taken world n source)) ∙ on

  abbrev Waits : ℕ → Bool → ℕ → OpenCommand → Type 0
  Waits k b m command = lookup (is_at (client_cmp (record { 0 = k }))) (if b then stepped_host stamp (after_step node event free) (effects_of node event free) (world.hosts n) else world.hosts m).node.commands ≡ Some command

  module _ (k : ℕ) (small : nat_lt k client_count ≡ true) where
    c : HoldsClient o book world k
    c = scripts.clients k small

    abbrev lines : List ScriptLine
    lines = (world.clients k).lines

    lines_same : (cs k).lines ≡ lines
    lines_same = lines_handed source world.clients k

    at_same : (cs k).at ≡ (world.clients k).at
    at_same = at_handed source world.clients k

    -- ---- it is not answered

    module _ (none : list_any (is_answer_to k) said ≡ false) where
      other : (client : ClientNo) → list_any (is_answer_to client.0) said ≡ true → (client.0 == k) ≡ false
      other client is = by (client.0 == k) refl
        where
          by : (b : Bool) → (client.0 == k) ≡ b → b ≡ false
          by false e = refl
          by true e = absurd (cc (sym is ∙ (ap (λ (i : ℕ). list_any (is_answer_to i) said) (eqb-true client.0 k e) ∙ none)))

      apart : (a b : ℕ) → (a == b) ≡ false → a ≡ b → ⊥
      apart a b off same = let on : (a == b) ≡ true = grind (arith, nat_tests, same) in let both : true ≡ false = sym on ∙ off in cc (both)

      leaves : (act : Act) → IsOfOpen was said act → LeavesScript k lines (record { stamp = stamp; node = record { 0 = n }; act = act })
      leaves act of = record { of_step = step.is_of_step was said act of; silent = silent act of; begins = begins act of }
        where
          silent : (act : Act) → IsOfOpen was said act → IsSilentTo k act
          silent (acts.Answer client line answer) of = apart client.0 k (other client of.answered)
          silent act of = tt

          begins : (act : Act) → IsOfOpen was said act → BeginsNone (labels_begun lines) act
          begins (acts.Begin tid label client) of = other_client k small client label of (other client of.answered)
          begins act of = tt

      all_leave : (acts : List Act) → Every (IsOfOpen was said) acts → Every (LeavesScript k lines) (entries_of n stamp acts)
      all_leave [] all = tt
      all_leave (act ∷ more) all = (leaves act all.0, all_leave more all.1)

      holds : HoldsScript now k lines
      holds = scripts_left (entries_of n stamp (effects_of node event free).entries) book k lines (all_leave (effects_of node event free).entries entries_so) (record { behind = c.behind; fresh = c.fresh })

      unanswered : ClientNow k (cs k)
      unanswered = record {
        at = at_same ∙ c.at;
        rest = record { done = c.rest.done; rest = lines_same ∙ c.rest.rest };
        behind = subst (λ (ls : List ScriptLine). AreBehind now k ls) (sym lines_same) holds.behind;
        fresh = subst (λ (ls : List ScriptLine). Every (IsFresh now) (labels_begun ls)) (sym lines_same) holds.fresh;
        in_hand = λ m within on command is. by m within on command (m == n) refl is;
      }
        where
          by : (m : ℕ) → nat_lt m world.size ≡ true → new.channels.up m ≡ true → (command : OpenCommand) → (b : Bool) → (m == n) ≡ b → Waits k b m command → ((cs k).at ≡ m) × IsInHand (cs k) (Some command)
          by m within on command true near is =
              let s = still (record { 0 = k }) command is in
              let i = in_hand (record { 0 = k }) s.old s.there in
              (at_same ∙ (i.own.at ∙ sym (eqb-true m n near)), (i.handed, ap (λ (ls : List ScriptLine). slice_get ls 0) lines_same ∙ (i.first ∙ ap (λ (l : ScriptLine). Some l) s.line)))
          by m within on command false far is =
              let h = c.in_hand m within (ups m on) command is in
              (at_same ∙ h.0, (step.handed_still o opens book world n stamp free source event comes scripts clients sized low up nodes rising source k h.1.0, ap (λ (ls : List ScriptLine). slice_get ls 0) lines_same ∙ h.1.1))

    -- ---- it is answered: its first line is behind it

    module _ (is : list_any (is_answer_to k) said ≡ true) where
      abbrev it : ClientNo
      it = record { 0 = k }

      w : WasOpen was it
      w = were k is

      own : In it w.command
      own = in_hand it w.command w.there

      abbrev rest : List ScriptLine
      rest = drop 1 lines

      one : {a b : OpenCommand} → Some a ≡ Some b → a ≡ b
      one same = cc same

      passes : (act : Act) → IsOfOpen was said act → Passes k w.command.line.line (labels_begun rest) act
      passes act of = record { of_step = step.is_of_step was said act of; answers = answers act of; begins = begins act of }
        where
          answers : (act : Act) → IsOfOpen was said act → AnswersAs k w.command.line.line act
          answers (acts.Answer client line answer) of = λ same. sym of.line_is ∙ ap (λ (o : OpenCommand). o.line.line) (one (sym (subst (λ (i : ℕ). lookup (is_at (client_cmp (record { 0 = i }))) was ≡ Some of.old) same of.there) ∙ w.there))
          answers act of = tt

          begins : (act : Act) → IsOfOpen was said act → BeginsNone (labels_begun rest) act
          begins (acts.Begin tid label client) of = by (client.0 == k) refl
            where
              by : (b : Bool) → (client.0 == k) ≡ b → Every (IsOther label) (labels_begun rest)
              by true near = subst (λ (i : ℕ). Every (IsOther label) (labels_begun (drop 1 (world.clients i).lines))) (eqb-true client.0 k near) (own_rest client label of)
              by false far = let b = behind_first lines in behind_of (IsOther label) b.front (labels_begun rest) (subst (λ (xs : List (List ℕ)). Every (IsOther label) xs) b.is (other_client k small client label of far))
          begins act of = tt

      whole : AreBehind book k (w.command.line ∷ rest)
      whole = subst (λ (ls : List ScriptLine). AreBehind book k ls) (first_of lines w.command.line own.first) c.behind

      fresh_rest : Every (IsFresh book) (labels_begun rest)
      fresh_rest = let b = behind_first lines in behind_of (IsFresh book) b.front (labels_begun rest) (subst (λ (xs : List (List ℕ)). Every (IsFresh book) xs) b.is c.fresh)

      past : IsPast now k w.command.line.line (labels_begun rest)
      past = all_passed n stamp k w.command.line.line (labels_begun rest) (effects_of node event free).entries book (every_on (IsOfOpen was said) (Passes k w.command.line.line (labels_begun rest)) passes (effects_of node event free).entries entries_so)
          (past_of book k w.command.line rest (labels_begun rest) whole fresh_rest)

      rises : are_rising w.command.line.line rest ≡ true
      rises = right_true (nat_lt whole.owner.line w.command.line.line) (are_rising w.command.line.line rest) whole.rise

      answered_now : ClientNow k (answered (cs k))
      answered_now = record {
        at = at_same ∙ c.at;
        rest = record { done = suc c.rest.done; rest = ap (drop 1) (lines_same ∙ c.rest.rest) ∙ drop_more c.rest.done (o.clients k).1 };
        behind = subst (λ (ls : List ScriptLine). AreBehind now k (drop 1 ls)) (sym lines_same) (behind_past now k w.command.line.line rest (labels_begun rest) rises past);
        fresh = subst (λ (ls : List ScriptLine). Every (IsFresh now) (labels_begun (drop 1 ls))) (sym lines_same) past.fresh;
        in_hand = λ m within on command there. absurd (by m within on command (m == n) refl there);
      }
        where
          by : (m : ℕ) → nat_lt m world.size ≡ true → new.channels.up m ≡ true → (command : OpenCommand) → (b : Bool) → (m == n) ≡ b → Waits k b m command → ⊥
          by m within on command true near there = cc (sym is ∙ (still it command there).unanswered)
          by m within on command false far there = equal_apart m n (sym (c.in_hand m within (ups m on) command there).0 ∙ own.own.at) far

    now_is : ClientNow k (new.clients k)
    now_is = by (list_any (is_answer_to k) said) refl
      where
        by : (b : Bool) → list_any (is_answer_to k) said ≡ b → ClientNow k (if b then answered (cs k) else cs k)
        by true is = answered_now is
        by false none = unanswered none

  -- ---- all of them

  left_behind : (k : ℕ) → IsBehind (left k) (labels_begun (new.clients k).lines)
  left_behind k = by (list_any (is_answer_to k) said)
    where
      by : (b : Bool) → IsBehind (left k) (labels_begun (if b then answered (cs k) else cs k).lines)
      by true = subst (λ (ls : List ScriptLine). IsBehind (left k) (labels_begun (drop 1 ls))) (sym (lines_handed source world.clients k)) (behind_first (world.clients k).lines)
      by false = subst (λ (ls : List ScriptLine). IsBehind (left k) (labels_begun ls)) (sym (lines_handed source world.clients k)) (record { front = []; is = refl })

  pub scripts_then : HoldsScripts o now new
  scripts_then = record {
    clients = λ k small. let c = now_is k small in record { at = c.at; rest = c.rest; behind = c.behind; fresh = c.fresh; in_hand = c.in_hand };
    apart = apart_left client_count left (λ (k : ℕ). labels_begun (new.clients k).lines) left_behind scripts.apart;
  }

  -- what is in hand then is of clients there
  clients_at : (k : ℕ) → (new.clients k).at ≡ (world.clients k).at
  clients_at k = by (list_any (is_answer_to k) said)
    where
      by : (b : Bool) → (if b then answered (cs k) else cs k).at ≡ (world.clients k).at
      by true = at_handed source world.clients k
      by false = at_handed source world.clients k

  pub clients_then : ClientsAt new
  clients_then m m_low client command there = by (m == n) refl there
    where
      by : (b : Bool) → (m == n) ≡ b → Waits client.0 b m command → IsOwnClient new m client
      by true near is = let s = still client command is in let i = in_hand client s.old s.there in record { small = i.own.small; at = clients_at client.0 ∙ (i.own.at ∙ sym (eqb-true m n near)) }
      by false far is = let i = clients m m_low client command is in record { small = i.small; at = clients_at client.0 ∙ i.at }
