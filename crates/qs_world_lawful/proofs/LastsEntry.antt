-- What stands in the machine at every time stands on after each lawful entry.
use Rattle.qs_world_lawful.proofs.Words.{◌≡◌, ◌⊎◌, inl, inr, ℕ, ◌<◌, ◌≤◌, ◌+◌, ◌==◌, ◌&&◌, Bool, true, false, List, [], ◌∷◌, Option, Some, None, refl, sym, ap, subst, ◌∙◌, arith, is_some, nat_lt, nat_tests, slice_get, list_all, ClientNo, NodeNo, Tid, Act, Entry, clash, right_of, BookValue, cell_of_transaction, find_transaction, inc_at, ticks_at, broken, broken_node, effect, effect_act, is_open_here, restart, TransactionValue, agrees, all_served, begun, has_note, is_commit, is_empty, is_open}
use Rattle.qs_world_lawful.proofs.Words.{is_unanimous, sent_in, sent_on, Cell, names_transaction, has_issued, IsBefore, IsOfNow, StandsOnce, IsNamed, ltb_some, le_lt}
use Rattle.qs_book_laws.specs.Lives.{restarts}
use Rattle.qs_book_laws.proofs.Committed.{ran_shut}
use Rattle.qs_book_laws.proofs.Lives.{Restarting, inc_of_node, restarting, same_life}
use Rattle.qs_book_laws.proofs.Serves.{inc_there}
use Rattle.qs_book_laws.proofs.Steps.{unheld}
use Rattle.qs_book_laws.proofs.Tidy.{step_tidy}
use Rattle.qs_book_laws.proofs.Unanimous.{Commits, step_commits}
use Rattle.qs_book_machine.specs.Nodes as machine
use Rattle.qs_book_machine.specs.declared.transaction.Cell.TheVariants as cells
use Rattle.qs_world_lawful.proofs.AnyRestart.{restart_shuts}
use Rattle.qs_world_lawful.proofs.Apart.{Apart, same_or_apart}
use Rattle.qs_world_lawful.proofs.EntryTurns.{Actor, Begins, Turning, actor, by_entry}
use Rattle.qs_world_lawful.proofs.LastsNodes.{Was, inv, node_was, to_come}
use Rattle.qs_world_lawful.proofs.LastsWell.{IssuedBefore, LastsWell, lasts_of}
use Rattle.qs_world_lawful.proofs.PastStops.{act_stopped}
use Rattle.qs_world_lawful.proofs.TurnedRequests.{fits_on, once_on}
use Rattle.qs_world_lawful.proofs.Turning.{IsFar, Issues, Leaves, Serves, Turns, some_of, stood}
use Rattle.qs_base_lemmas.proofs.Tests.{le_one_more}

-- what is unanimous is not crossed
uncrossed : (tx : TransactionValue) → is_unanimous tx ≡ true → is_empty tx.crossed ≡ true
uncrossed tx is = right_of (is_empty tx.refusals) (is_empty tx.crossed) (right_of (list_all agrees tx.parts) (is_empty tx.refusals && is_empty tx.crossed) (right_of (is_some tx.asked && all_served tx) (list_all agrees tx.parts && (is_empty tx.refusals && is_empty tx.crossed)) is))

module _ (book : BookValue) (entry : Entry) (w : LastsWell book) (h : broken book entry ≡ None) where
  abbrev new : BookValue
  new = effect book entry

  abbrev here : ℕ
  here = entry.node.0

  -- ---- a transaction that begins

  fresh_once : (label : List ℕ) (client : ClientNo) (ticks : ℕ) → StandsOnce (begun label client ticks)
  fresh_once label client ticks = record { whole = λ is. refl; once = λ member at clean. zero_low; fits = λ member at. tt }
    where
      zero_low : 0 ≤ 1
      zero_low = grind arith

  -- of a transaction that stands after the entry: it began, or stood
  abbrev Stood : Tid → TransactionValue → Type 0
  Stood tid later = ((b : Begins book entry) × (later ≡ begun b.label b.client (ticks_at (slice_get book.nodes here))) × (tid ≡ b.tid)) ⊎ ((tx : TransactionValue) × (find_transaction book tid ≡ Some tx) × ((later ≡ tx) ⊎ ((t : Turning book entry) × Turns here t.now book.place tid tx later)))

  stood_as : (tid : Tid) (later : TransactionValue) → find_transaction new tid ≡ Some later → Stood tid later
  stood_as tid later found = of (by_entry book entry w.inv h)
    where
      of : Begins book entry ⊎ Turning book entry → Stood tid later
      of (inr t) = let s = stood (Turns here t.now book.place) book new t.turned tid later found in inr (s.0, s.1, inr (t, s.2))
      of (inl b) = at (same_or_apart b.tid tid)
        where
          at : (b.tid ≡ tid) ⊎ Apart b.tid tid → Stood tid later
          at (inl same) = inl (b, some_of (sym (ap (find_transaction new) same ∙ found) ∙ b.stands), sym same)
          at (inr far) = inr (later, sym (b.others tid far) ∙ found, inl refl)

  -- ---- what stands of it

  place_low : (a b : ℕ) → a < b → a < b + 1
  place_low a b p = grind (arith, p)

  own_low : (a b : ℕ) → a ≡ b → a < b + 1
  own_low a b p = grind (arith, p)

  past_on : (tid : Tid) (later : TransactionValue) (place : ℕ) → find_transaction new tid ≡ Some later → later.decided ≡ Some place → place < book.place + 1
  past_on tid later place found is = of (stood_as tid later found)
    where
      of : Stood tid later → place < book.place + 1
      of (inl b) = absurd (cc (sym (ap (λ (x : TransactionValue). x.decided) b.1) ∙ is))
      of (inr (tx, was, inl same)) = place_low place book.place (w.past tid tx place was (sym (ap (λ (x : TransactionValue). x.decided) same) ∙ is))
      of (inr (tx, was, inr (t, r))) = by r.when
        where
          by : ((later.cell ≡ tx.cell) × (later.decided ≡ tx.decided)) ⊎ ((is_open tx.cell ≡ true) × (later.decided ≡ Some book.place)) → place < book.place + 1
          by (inl q) = place_low place book.place (w.past tid tx place was (sym q.1 ∙ is))
          by (inr q) = own_low place book.place (some_of (sym is ∙ q.1))

  named_on : IsNamed new
  named_on tid is = by (find_transaction new tid) refl
    where
      later : (a b : ℕ) → a ≡ b + 1 → nat_lt 0 a ≡ true
      later a b e = grind (arith, nat_tests, e)

      by : (o : Option TransactionValue) → find_transaction new tid ≡ o → names_transaction tid ≡ true
      by None none = absurd (cc (sym (ap is_some none) ∙ is))
      by (Some tx) found = of (stood_as tid tx found)
        where
          of : Stood tid tx → names_transaction tid ≡ true
          of (inl (b, fresh, same)) = subst (λ (t : Tid). names_transaction t ≡ true) (sym same) (later b.tid.seq _ b.first)
          of (inr s) = w.named tid (ap is_some s.1)

  waits_on : (tid : Tid) (later : TransactionValue) → find_transaction new tid ≡ Some later → StandsOnce later
  waits_on tid later found = of (stood_as tid later found)
    where
      of : Stood tid later → StandsOnce later
      of (inl (b, fresh, same)) = subst StandsOnce (sym fresh) (fresh_once b.label b.client (ticks_at (slice_get book.nodes here)))
      of (inr (tx, was, inl same)) = subst StandsOnce (sym same) (w.waits tid tx was)
      of (inr (tx, was, inr (t, r))) = record {
        whole = whole;
        once = once_on here t.now book.place tx later r.requests (w.waits tid tx was);
        fits = fits_on here t.now book.place tx later r.requests (w.waits tid tx was);
      }
        where
          open_is : (c : Cell) → is_open c ≡ true → c ≡ cells.Open
          open_is cells.Open e = refl
          open_is cells.Commit e = absurd (cc e)
          open_is cells.Abort e = absurd (cc e)

          commit_is : (c : Cell) → is_commit c ≡ true → c ≡ cells.Commit
          commit_is cells.Commit e = refl
          commit_is cells.Open e = absurd (cc e)
          commit_is cells.Abort e = absurd (cc e)

          -- none is crossed before it
          before : is_commit later.cell ≡ true → is_empty tx.crossed ≡ true
          before is = by r.when
            where
              by : ((later.cell ≡ tx.cell) × (later.decided ≡ tx.decided)) ⊎ ((is_open tx.cell ≡ true) × (later.decided ≡ Some book.place)) → is_empty tx.crossed ≡ true
              by (inl q) = (w.waits tid tx was).whole (sym (ap is_commit q.0) ∙ is)
              by (inr q) =
                  let c : Commits book tid = step_commits book entry tid w.shut h (ap cell_of_transaction was ∙ ap Some (open_is tx.cell q.0)) (ap cell_of_transaction found ∙ ap Some (commit_is later.cell is)) in
                  subst (λ (x : TransactionValue). is_empty x.crossed ≡ true) (some_of (sym c.found ∙ was)) (uncrossed c.tx c.unanimous)

          whole : is_commit later.cell ≡ true → is_empty later.crossed ≡ true
          whole is = by r.requests
            where
              by : Leaves tx later ⊎ (Issues here t.now book.place tx later ⊎ Serves here tx later) → is_empty later.crossed ≡ true
              by (inl l) = ap is_empty l.crossed ∙ before is
              by (inr (inl i)) = absurd (clash is (ap is_commit i.cell ∙ i.undone))
              by (inr (inr s)) = ap is_empty s.crossed ∙ before is

  before_on : (n : NodeNo) (state : machine.NodeValue) (tid : Tid) (later : TransactionValue) (inc : ℕ) → slice_get new.nodes n.0 ≡ Some state → find_transaction new tid ≡ Some later → state.inc < inc → IsBefore later n inc
  before_on n state tid later inc is found low = of (stood_as tid later found)
    where
      v : Was book entry w h n state
      v = node_was book entry w h n state is

      old_low : v.old.inc < inc
      old_low = le_lt v.old.inc state.inc inc v.rises low

      fresh_before : (label : List ℕ) (client : ClientNo) (ticks : ℕ) → IsBefore (begun label client ticks) n inc
      fresh_before label client ticks = record { parts = λ server. refl; sent = λ peer. refl; noted = λ text. refl }

      of : Stood tid later → IsBefore later n inc
      of (inl (b, fresh, same)) = subst (λ (x : TransactionValue). IsBefore x n inc) (sym fresh) (fresh_before b.label b.client (ticks_at (slice_get book.nodes here)))
      of (inr (tx, was, inl same)) = subst (λ (x : TransactionValue). IsBefore x n inc) (sym same) (w.before n v.old tid tx inc v.there was old_low)
      of (inr (tx, was, inr (t, r))) = record { parts = λ server. r.parts (record { node = n; server = server }) inc far ∙ b.parts server; sent = sent; noted = noted }
        where
          b : IsBefore tx n inc
          b = w.before n v.old tid tx inc v.there was old_low

          far : IsFar here t.now n inc
          far = to_come book entry w h t n state is inc low

          sent : (peer : NodeNo) → sent_in inc (sent_on later (record { from = n; to = peer })) ≡ 0
          sent peer = by (r.sent (record { from = n; to = peer }) inc far)
            where
              by : (sent_in inc (sent_on later (record { from = n; to = peer })) ≡ sent_in inc (sent_on tx (record { from = n; to = peer }))) ⊎ (((n.0 == here) ≡ true) × (sent_in inc (sent_on later (record { from = n; to = peer })) ≡ 0)) → sent_in inc (sent_on later (record { from = n; to = peer })) ≡ 0
              by (inl e) = e ∙ b.sent peer
              by (inr e) = e.1

          noted : (text : List ℕ) → has_note later (record { node = n; inc = inc; text = text }) ≡ false
          noted text = by (has_note later (record { node = n; inc = inc; text = text })) refl
            where
              not_before : (has_note tx (record { node = n; inc = inc; text = text }) ≡ true) ⊎ (has_issued tx n inc text ≡ true) → ⊥
              not_before (inl e) = clash e (b.noted text)
              not_before (inr e) = clash e (w.issued n v.old tid tx inc text v.there was old_low)

              by : (c : Bool) → has_note later (record { node = n; inc = inc; text = text }) ≡ c → has_note later (record { node = n; inc = inc; text = text }) ≡ false
              by false e = e
              by true e = absurd (not_before (r.noted n inc text e))

  issued_on : IssuedBefore new
  issued_on n state tid later inc text is found low = of (stood_as tid later found)
    where
      v : Was book entry w h n state
      v = node_was book entry w h n state is

      old_low : v.old.inc < inc
      old_low = le_lt v.old.inc state.inc inc v.rises low

      of : Stood tid later → has_issued later n inc text ≡ false
      of (inl (b, fresh, same)) = ap (λ (x : TransactionValue). has_issued x n inc text) fresh
      of (inr (tx, was, inl same)) = ap (λ (x : TransactionValue). has_issued x n inc text) same ∙ w.issued n v.old tid tx inc text v.there was old_low
      of (inr (tx, was, inr (t, r))) = r.issued n inc text (to_come book entry w h t n state is inc low) ∙ w.issued n v.old tid tx inc text v.there was old_low

  -- ---- what is open at its home

  now_on : (n : NodeNo) (state : machine.NodeValue) (tid : Tid) (later : TransactionValue) → slice_get new.nodes n.0 ≡ Some state → find_transaction new tid ≡ Some later → tid.home ≡ n → is_open later.cell ≡ true → tid.inc ≡ state.inc
  now_on n state tid later is found home undecided = by (restarts n entry) refl
    where
      v : Was book entry w h n state
      v = node_was book entry w h n state is

      -- it was open before, where it stood
      was_open : (tx : TransactionValue) → (is_open tx.cell ≡ false → later.cell ≡ tx.cell) → is_open tx.cell ≡ true
      was_open tx stays = of (is_open tx.cell) refl
        where
          of : (b : Bool) → is_open tx.cell ≡ b → is_open tx.cell ≡ true
          of true e = e
          of false e = absurd (clash undecided (ap is_open (stays e) ∙ e))

      open_before : (tx : TransactionValue) → (later ≡ tx) ⊎ ((t : Turning book entry) × Turns here t.now book.place tid tx later) → is_open tx.cell ≡ true
      open_before tx (inl same) = was_open tx (λ e. ap (λ (x : TransactionValue). x.cell) same)
      open_before tx (inr r) = was_open tx r.1.decided

      by : (b : Bool) → restarts n entry ≡ b → tid.inc ≡ state.inc
      by false stays = of (stood_as tid later found)
        where
          same : v.old.inc ≡ state.inc
          same = some_of (sym (inc_of_node book n.0 v.old v.there) ∙ (sym (same_life n book entry stays h) ∙ inc_of_node new n.0 state is))

          of : Stood tid later → tid.inc ≡ state.inc
          of (inl (b, fresh, e)) = ap (λ (t : Tid). t.inc) e ∙ (b.inc ∙ (ap (inc_at book) (ap (λ (k : ℕ). record { 0 = k }) (sym b.home ∙ ap (λ (t : Tid). t.home.0) (sym e)) ∙ home) ∙ (inc_there book n.0 v.old v.there ∙ same)))
          of (inr (tx, was, how)) = w.now n v.old tid tx v.there was home (open_before tx how) ∙ same
      by true again = absurd (of (stood_as tid later found))
        where
          r : Restarting n entry
          r = restarting n entry again

          of : Stood tid later → ⊥
          of (inl (b, fresh, e)) = cc (sym r.act ∙ b.act)
          of (inr (tx, was, how)) = clash open_there (ap (λ (o : Option TransactionValue). is_open_here here tid o) (sym found_there) ∙ shuts)
            where
              now : IsOfNow v.old tid
              now = ((lasts_of book w).nodes n v.old v.there).open_now tid tx was home (open_before tx how)

              a : Actor book entry
              a = actor book entry h

              old_is : a.state ≡ v.old
              old_is = some_of (sym a.there ∙ (ap (slice_get book.nodes) r.here ∙ v.there))

              shuts : is_open_here here tid (find_transaction (restart here r.inc r.pend r.done book) tid) ≡ false
              shuts = restart_shuts book here r.inc r.pend r.done a.state a.there (unheld a.state.up 2 _ (subst (λ (x : Act). broken_node book entry.stamp here a.state x ≡ None) r.act a.allowed)) tid
                  (ap (λ (k : NodeNo). k.0) home ∙ sym r.here) (subst (λ (s : machine.NodeValue). IsOfNow s tid) (sym old_is) now) (ltb_some tid.seq (w.named tid (ap is_some was)))

              found_there : find_transaction (restart here r.inc r.pend r.done book) tid ≡ Some later
              found_there = ap (λ (x : Act). find_transaction (effect_act entry.stamp here x book) tid) (sym r.act) ∙ found

              open_there : is_open_here here tid (Some later) ≡ true
              open_there = rw (ap (λ (k : NodeNo). k.0) home ∙ sym r.here, undecided) (self here)
                where
                  self : (k : ℕ) → ((k == k) && true) ≡ true
                  self k = grind (arith, nat_tests)

  pub lasts_on : LastsWell new
  lasts_on = record {
    inv = inv book entry w h;
    shut = ran_shut (entry ∷ []) book w.inv w.shut (h, tt);
    tidy = step_tidy book entry w.tidy;
    stopped = λ n node is. le_one_more node.stopped book.place (act_stopped book entry.stamp here entry.act w.stopped n node is);
    named = named_on;
    past = past_on;
    waits = waits_on;
    before = before_on;
    issued = issued_on;
    now = now_on;
  }
