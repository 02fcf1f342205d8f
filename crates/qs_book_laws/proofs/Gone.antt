-- The incarnation of a node that the machine has as the last in which a request to it was open is the last of those moments.
use Rattle.qs_book_laws.proofs.Words.{◌≡◌, ◌⊎◌, inl, inr, ℕ, ◌+◌, ◌-◌, ◌<◌, ◌==◌, ◌&&◌, Bool, true, false, List, [], ◌∷◌, ◌++◌, Option, Some, None, refl, sym, ap, subst, ◌∙◌, if◌then◌else◌, arith, nat_tests, slice_get, unwrap_or, nat_lt, length, option_map, same_tid, Member, NodeNo, Tid, same_tid-true, is_client_no, Act, Begin, Issue, Serve, Ask, Counted, Decide, Ending, Learn, Loan, Yield, Tick, Crash, Restart, Entry, Found, TransactionValue, is_gone, is_open_to, issued, Request, RequestNo}
use Rattle.qs_book_laws.proofs.Words.{BookValue, find_transaction, with_transaction, with_waiting, with_crossing, crosses, loan_to, give_back_from, inc_at, owner_of, link_to, borrower_at, broken_issue, is_in_order, broken_act, broken_at, broken, effect_act, effect, NodeValue, Owner, is_restart, restarts, and_false}
use Rattle.qs_ops.specs.declared.answer.Answer.{Answer as Said}
use Rattle.qs_book_journal.specs.declared.entry.Act.TheVariants.{Answer}
use Rattle.qs_book_journal.specs.declared.entry.Act.TheVariants as acts
use Rattle.qs_book_machine.specs.Clauses.{broken_answer}
use Rattle.qs_book_laws.proofs.Always.{unknown}
use Rattle.qs_book_laws.proofs.Begun.{inc_in}
use Rattle.qs_book_laws.proofs.Faces.{Age, age}
use Rattle.qs_book_laws.proofs.Holding.{clash}
use Rattle.qs_book_laws.proofs.Lives.{same_life, Reborn, reborn, Restarting, restarting}
use Rattle.qs_book_laws.proofs.OpenThen.{is_open_in, is_open_at}
use Rattle.qs_book_laws.proofs.Outcomes.{Inv}
use Rattle.qs_book_laws.proofs.Pace.{stay, restarted}
use Rattle.qs_book_laws.proofs.Paces.{Goes, Went, count, act_owed, answer_goes}
use Rattle.qs_book_laws.proofs.Steps.{held}
use Rattle.qs_book_laws.proofs.Takes.{some_same}
use Rattle.qs_book_laws.proofs.Turns.{Stands, Same, Obliged, step_turns, stands_by, stands_as}
use Rattle.qs_book_laws.proofs.Unanswered.{Waits, times, own_of, without, times_split, times_more}
use Rattle.qs_book_laws.proofs.Waiting.{waits_after, AreWaiting, asked_waits, answered_waits, still_waiting, owner_told, restart_same}
use Rattle.qs_base_lemmas.proofs.Tests.{zero_le}

-- ---- clients

crossing_owners : (c : Bool) (t : Tid) (m : Member) (book : BookValue) → (with_crossing c t m book).owners ≡ book.owners
crossing_owners true t m book = refl
crossing_owners false t m book = refl

loan_owners : (inc : ℕ) (t : Tid) (o : Option Member) (book : BookValue) → (loan_to inc t o book).owners ≡ book.owners
loan_owners inc t None book = refl
loan_owners inc t (Some m) book = refl

yield_owners : (inc : ℕ) (t : Tid) (o : Option Member) (book : BookValue) → (give_back_from inc t o book).owners ≡ book.owners
yield_owners inc t None book = refl
yield_owners inc t (Some m) book = refl

over : (old new : List Owner) (ws : List Waits) → new ≡ old → AreWaiting old ws → AreWaiting new ws
over old new ws same are = subst (λ (os : List Owner). AreWaiting os ws) (sym same) are

clients_after : (book : BookValue) (stamp here : ℕ) (act : Act) (ws : List Waits) → AreWaiting book.owners ws → AreWaiting (effect_act stamp here act book).owners (waits_after ws act)
clients_after book stamp here (Issue t issuer m n op) ws are =
    over (with_waiting t issuer m one).owners (effect_act stamp here (Issue t issuer m n op) book).owners (waits_after ws (Issue t issuer m n op))
    (crossing_owners (crosses (find_transaction book t) no m) t m (with_waiting t issuer m one)) (asked_waits book t issuer m one refl ws are)
  where
    no : RequestNo
    no = record { link = link_to here m; number = n }

    request : Request
    request = record { issuer = issuer; member = m; op = op; inc = inc_at book (record { 0 = here }); served = false }

    one : BookValue
    one = with_transaction t (issued no request (inc_at book m.node) book.place) book
clients_after book stamp here (Answer client line said) ws are = answered_waits book client line ws are
clients_after book stamp here (Decide t outcome cause) ws are = still_waiting book.owners _ ws (owner_told (owner_of (find_transaction book t)) outcome cause book.owners) are
clients_after book stamp here (Restart new pend done) ws are = still_waiting book.owners _ ws (restart_same here new pend done book) are
clients_after book stamp here (Loan t client) ws are = over book.owners _ ws (loan_owners (inc_at book (record { 0 = here })) t (borrower_at client here) book) are
clients_after book stamp here (Yield t client) ws are = over book.owners _ ws (yield_owners (inc_at book (record { 0 = here })) t (borrower_at client here) book) are
clients_after book stamp here (Begin t label client) ws are = are
clients_after book stamp here (Serve t m from n reply) ws are = are
clients_after book stamp here (acts.Vote t m ballot covers) ws are = are
clients_after book stamp here (Ask t) ws are = are
clients_after book stamp here (Counted t peer so_far) ws are = are
clients_after book stamp here (Ending t m) ws are = are
clients_after book stamp here (Learn t m outcome) ws are = are
clients_after book stamp here Tick ws are = are
clients_after book stamp here (Crash cause) ws are = are

-- ---- incarnations

pub inc_as : (book : BookValue) (node : NodeNo) → inc_at book node ≡ unwrap_or (inc_in book node.0) 0
inc_as book node = of (slice_get book.nodes node.0)
  where
    of : (o : Option NodeValue) → (elim o as (λ x. ℕ) [ None ↦ 0 | Some v ↦ v.inc ]) ≡ unwrap_or (option_map (λ (a : Age). a.inc) (option_map age o)) 0
    of None = refl
    of (Some v) = refl

module _ (tid : Tid) (node : NodeNo) (gone : ℕ) where
  abbrev pub gone_in : ℕ → Option TransactionValue → Bool
  gone_in inc None = false
  gone_in inc (Some tx) = is_gone tx node inc gone

  abbrev pub IsPast : BookValue → Bool
  IsPast book = gone_in (inc_at book node) (find_transaction book tid)

  pub record Keeps (book : BookValue) (ws : List Waits) : Type 0 where
    pub clients : AreWaiting book.owners ws
    pub goes : (tx : TransactionValue) → find_transaction book tid ≡ Some tx → Goes tid node gone (is_gone tx node (inc_at book node) gone) (inc_at book node) (count tid node gone ws) tx
    pub none : find_transaction book tid ≡ None → count tid node gone ws ≡ 0

  pub record Moved (book new : BookValue) (ws : List Waits) : Type 0 where
    pub keeps : Keeps new ws
    pub kept : IsPast book ≡ true → IsPast new ≡ true
    pub back : IsPast new ≡ true → (IsPast book ≡ true) ⊎ (is_open_at new tid node ≡ true)

  -- ---- a transaction that is not known

  no_request : (book : BookValue) (stamp here : ℕ) (v : NodeValue) (ws : List Waits) (act : Act) → broken_act book stamp here v act ≡ None → find_transaction book tid ≡ None → count tid node gone ws ≡ 0 → count tid node gone (waits_after ws act) ≡ 0
  no_request book stamp here v ws (Issue t issuer m n op) h none zero = by (is_client_no issuer.server.0)
    where
      new : Waits
      new = record { client = issuer.server.0 - 32; asking = record { tid = t; node = m.node } }

      known : (o : Option TransactionValue) → o ≡ None → broken_issue here v (length book.nodes) t o issuer m n op ≡ None → ⊥
      known None is k = absurd (cc k)
      known (Some tx) is k = absurd (cc is)

      apart : (b : Bool) → same_tid t tid ≡ b → b ≡ false
      apart false is = refl
      apart true is = absurd (known (find_transaction book t) (ap (find_transaction book) (same_tid-true t tid is) ∙ none) h)

      plus_none : (k : ℕ) → k ≡ 0 → k + 0 ≡ 0
      plus_none k e = omega arith

      by : (b : Bool) → count tid node gone (if b then ws ++ new ∷ [] else ws) ≡ 0
      by true =
          times_more tid node ws new
          ∙ (ap (λ (x : Bool). count tid node gone ws + (if x && (m.node.0 == node.0) then 1 else 0)) (apart (same_tid t tid) refl) ∙ plus_none (count tid node gone ws) zero)
      by false = zero
  no_request book stamp here v ws (Answer client line said) h none zero = least (times tid node (own_of client.0 ws)) (count tid node gone (without client.0 ws)) (sym (times_split tid node client.0 ws) ∙ zero)
    where
      least : (a b : ℕ) → a + b ≡ 0 → b ≡ 0
      least a b e = omega arith
  no_request book stamp here v ws act h none zero = zero

  no_request_at : (book : BookValue) (stamp here : ℕ) (o : Option NodeValue) (ws : List Waits) (act : Act) → broken_at book stamp here o act ≡ None → find_transaction book tid ≡ None → count tid node gone ws ≡ 0 → count tid node gone (waits_after ws act) ≡ 0
  no_request_at book stamp here None ws act h none zero = absurd (cc h)
  no_request_at book stamp here (Some v) ws (Restart new pend done) h none zero = zero
  no_request_at book stamp here (Some v) ws act h none zero = no_request book stamp here v ws act (held v.up 2 (broken_act book stamp here v act) h).1 none zero

  abbrev pub IsBare : TransactionValue → Type 0
  IsBare tx = (tx.sent ≡ []) × (tx.peers ≡ [])

  never : (n : ℕ) → nat_lt n 0 ≡ false
  never n = grind (arith, nat_tests)

  pub bare_goes : (inc : ℕ) (tx : TransactionValue) → IsBare tx → Goes tid node gone (is_gone tx node inc gone) inc 0 tx
  bare_goes inc tx bare = rw (bare.0, bare.1) (record { waits = refl; below = zero_le inc; has = λ h. absurd (cc h); is = refl })

  pub bare_past : (inc : ℕ) (tx : TransactionValue) → IsBare tx → is_gone tx node inc gone ≡ false
  bare_past inc tx bare = rw (bare.0, bare.1) (never gone)

  -- ---- a step

  module _ (book : BookValue) (entry : Entry) (ws : List Waits) (i : Inv book) (h : broken book entry ≡ None) (k : Keeps book ws) where
    abbrev pub new : BookValue
    new = effect book entry

    abbrev pub more : List Waits
    more = waits_after ws entry.act

    clients_new : AreWaiting new.owners more
    clients_new = clients_after book entry.stamp entry.node.0 entry.act ws k.clients

    from_none : find_transaction book tid ≡ None → Moved book new more
    from_none none =
        record {
          keeps = record {
            clients = clients_new;
            goes = λ tx found. subst (λ (n : ℕ). Goes tid node gone (is_gone tx node (inc_at new node) gone) (inc_at new node) n tx) (sym zero) (bare_goes (inc_at new node) tx (bare tx found));
            none = λ still. zero;
          };
          kept = λ g. absurd (cc (sym (ap (gone_in (inc_at book node)) none) ∙ g));
          back = λ g. absurd (not_past (find_transaction new tid) refl g);
        }
      where
        zero : count tid node gone more ≡ 0
        zero = no_request_at book entry.stamp entry.node.0 (slice_get book.nodes entry.node.0) ws entry.act (held (is_in_order book entry) 1 _ h).1 none (k.none none)

        bare : (tx : TransactionValue) → find_transaction new tid ≡ Some tx → IsBare tx
        bare = unknown tid IsBare book entry h (λ label client ticks. (refl, refl)) none

        not_past : (o : Option TransactionValue) → find_transaction new tid ≡ o → gone_in (inc_at new node) o ≡ true → ⊥
        not_past None is g = absurd (cc g)
        not_past (Some tx) is g = clash g (bare_past (inc_at new node) tx (bare tx is))

    module _ (tx : TransactionValue) (found : find_transaction book tid ≡ Some tx) where
      abbrev g : Bool
      g = is_gone tx node (inc_at book node) gone

      abbrev P : TransactionValue → Type 0
      P = Goes tid node gone g (inc_at book node) (count tid node gone ws)

      abbrev Q : TransactionValue → Type 0
      Q = Went tid node gone g (inc_at new node) (count tid node gone more)

      first : Stands tid P book
      first = record { tx = tx; found = found; holds = k.goes tx found }

      same_inc : restarts node entry ≡ false → inc_at new node ≡ inc_at book node
      same_inc far = inc_as new node ∙ (ap (λ (o : Option ℕ). unwrap_or o 0) (same_life node book entry far h) ∙ sym (inc_as book node))

      no_restart : (act : Act) → is_restart act ≡ false → entry.act ≡ act → restarts node entry ≡ false
      no_restart act plain is = ap (λ (a : Act). (entry.node.0 == node.0) && is_restart a) is ∙ (ap (λ (b : Bool). (entry.node.0 == node.0) && b) plain ∙ and_false (entry.node.0 == node.0))

      -- the incarnation of the node stayed
      stayed : restarts node entry ≡ false → Stands tid (Went tid node gone g (inc_at book node) (count tid node gone more)) new → Stands tid Q new
      stayed far s = stands_by tid _ Q new (λ t p. subst (λ (n : ℕ). Went tid node gone g n (count tid node gone more) t) (sym (same_inc far)) p) s

      by_restart : (inc : ℕ) (pend : List Found) (done : List Tid) → entry.act ≡ acts.Restart inc pend done → Stands tid Q new
      by_restart inc pend done is =
          step_turns tid P Q book entry i h (subst (λ (act : Act). Obliged tid P Q book entry.stamp entry.node.0 act) (sym is) (record { learnt = λ m t p. p; decided = λ place outcome cause t p. p; found = λ server covers changes t p. p }, same)) first
        where
          counts : count tid node gone more ≡ count tid node gone ws
          counts = ap (λ (a : Act). count tid node gone (waits_after ws a)) is

          same : Same P Q
          same t p = subst (λ (n : ℕ). Went tid node gone g (inc_at new node) n t) (sym counts) (by (restarts node entry) refl)
            where
              by : (b : Bool) → restarts node entry ≡ b → Went tid node gone g (inc_at new node) (count tid node gone ws) t
              by false far = subst (λ (n : ℕ). Went tid node gone g n (count tid node gone ws) t) (sym (same_inc far)) (stay node gone g (inc_at book node) (count tid node gone ws) t.sent t.peers p)
              by true near =
                  let r : Restarting node entry = restarting node entry near in
                  let x : Reborn book new node.0 r.inc = reborn book entry node.0 r.inc r.pend r.done h r.act r.here in
                  let was : inc_at book node ≡ x.old = inc_as book node ∙ ap (λ (o : Option ℕ). unwrap_or o 0) x.was in
                  let now : inc_at new node ≡ r.inc = inc_as new node ∙ ap (λ (o : Option ℕ). unwrap_or o 0) x.now in
                  restarted node gone g (inc_at book node) (inc_at new node) (count tid node gone ws) t.sent t.peers (subst (λ (n : ℕ). inc_at book node < n) (sym now) (subst (λ (n : ℕ). n < r.inc) (sym was) x.later)) p

      owner_there : (o : Option Owner) (line : ℕ) (said : Said) → broken_answer o line said ≡ None → (owner : Owner) × (o ≡ Some owner)
      owner_there None line said e = absurd (cc e)
      owner_there (Some owner) line said e = (owner, refl)

      by_act : (v : NodeValue) (act : Act) → entry.act ≡ act → is_restart act ≡ false → broken_act book entry.stamp entry.node.0 v act ≡ None → Stands tid Q new
      by_act v (Answer client line said) is plain lawful =
          let o = owner_there (slice_get book.owners client.0) line said lawful in
          let s = answer_goes tid node gone g (inc_at book node) ws book client line o.0 refl o.1 (k.clients client.0 o.0 o.1) first in
          let last : Stands tid (Goes tid node gone g (inc_at book node) (count tid node gone (without client.0 ws))) new =
          subst (λ (a : Act). Stands tid (Goes tid node gone g (inc_at book node) (count tid node gone (without client.0 ws))) (record (effect_act entry.stamp entry.node.0 a book) { stamp = entry.stamp; node = entry.node.0; place = book.place + 1 })) (sym is)
          (stands_as tid _ (effect_act entry.stamp entry.node.0 (Answer client line said) book) _ refl s) in
          stayed (no_restart (Answer client line said) refl is)
          (stands_by tid _ (Went tid node gone g (inc_at book node) (count tid node gone more)) new
          (λ t p. subst (λ (a : Act). Went tid node gone g (inc_at book node) (count tid node gone (waits_after ws a)) t) (sym is) (stay node gone g (inc_at book node) (count tid node gone (without client.0 ws)) t.sent t.peers p)) last)
      by_act v act is plain lawful =
          stayed (no_restart act plain is)
          (step_turns tid P (Went tid node gone g (inc_at book node) (count tid node gone more)) book entry i h
          (subst (λ (a : Act). Obliged tid P (Went tid node gone g (inc_at book node) (count tid node gone (waits_after ws a))) book entry.stamp entry.node.0 a) (sym is)
          (act_owed tid node gone g (inc_at book node) ws book entry.stamp entry.node.0 refl v act lawful (λ client line said e. absurd (cc e)))) first)

      by_node : (o : Option NodeValue) (act : Act) → entry.act ≡ act → broken_at book entry.stamp entry.node.0 o act ≡ None → Stands tid Q new
      by_node None act is lawful = absurd (cc lawful)
      by_node (Some v) (Restart inc pend done) is lawful = by_restart inc pend done is
      by_node (Some v) act is lawful = by_act v act is refl (held v.up 2 (broken_act book entry.stamp entry.node.0 v act) lawful).1

      from_some : Moved book new more
      from_some =
          let s : Stands tid Q new = by_node (slice_get book.nodes entry.node.0) entry.act refl (held (is_in_order book entry) 1 _ h).1 in
          let a : Q s.tx = s.holds in
          record {
            keeps = record {
              clients = clients_new;
              goes = λ t there.
                  subst (λ (y : TransactionValue). Goes tid node gone (is_gone y node (inc_at new node) gone) (inc_at new node) (count tid node gone more) y) (some_same s.tx t (sym s.found ∙ there))
                  (record { waits = a.waits; below = a.below; has = a.has; is = refl });
              none = λ none. absurd (cc (none, s.found));
            };
            kept = λ was. ap (gone_in (inc_at new node)) s.found ∙ a.kept (sym (ap (gone_in (inc_at book node)) found) ∙ was);
            back = λ now. either s.tx s.found (a.back (sym (ap (gone_in (inc_at new node)) s.found) ∙ now));
          }
        where
          either : (t : TransactionValue) → find_transaction new tid ≡ Some t → (g ≡ true) ⊎ (is_open_to t node ≡ true) → (IsPast book ≡ true) ⊎ (is_open_at new tid node ≡ true)
          either t there (inl was) = inl (ap (gone_in (inc_at book node)) found ∙ was)
          either t there (inr stood) = inr (ap (is_open_in node) there ∙ stood)

    pub moved : Moved book new more
    moved = by (find_transaction book tid) refl
      where
        by : (o : Option TransactionValue) → find_transaction book tid ≡ o → Moved book new more
        by None none = from_none none
        by (Some tx) found = from_some tx found
