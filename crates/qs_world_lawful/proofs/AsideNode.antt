-- Each lawful entry that another node makes in a step leaves all that is held of a node that runs.
use Rattle.qs_world_lawful.proofs.Words.{◌≡◌, ◌⊎◌, inl, inr, ℕ, ◌==◌, Bool, true, false, List, [], ◌∷◌, Option, Some, None, refl, sym, ap, subst, ◌∙◌, is_some, nat_lt, slice_get, lookup, is_at, ClientNo, NodeNo, Tid, Act, Entry, Delivery, same_number, ran_run, BookValue, find_transaction, ticks_at, broken, TransactionValue, begun, held, client_cmp, OpenCommand, Participant, IsAside, at_server, face_of, HoldsAt, HoldsClients, HoldsNode, HoldsStill, HoldsTid, IsBehind, StandsOnce, HoldsWaits}
use Rattle.qs_world_lawful.proofs.Words.{HoldsWaitsAt, IsWithin, standing_ops, waiting_ops, apart_turned}
use Rattle.qs_book_journal.specs.declared.entry.Act.TheVariants as acts
use Rattle.qs_book_machine.specs.Nodes as machine
use Rattle.qs_node_step.specs.State.{NodeValue}
use Rattle.qs_world_lawful.specs.Aside.{AnswersElsewhere, HoldsIssued, HoldsIssuedOf}
use Rattle.qs_world_lawful.proofs.AsideActs.{IsAnsweredBy, owners_keep}
use Rattle.qs_world_lawful.proofs.AsideBook.{Goes, ended_on, goes_on, new, new_begins, node_on, owner_back, owner_on, stood_away}
use Rattle.qs_world_lawful.proofs.AsideIssue.{NodeOn}
use Rattle.qs_world_lawful.proofs.AsideTid.{begun_away, issued_on, tid_on, waits_on}
use Rattle.qs_world_lawful.proofs.EntryTurns.{Begins}
use Rattle.qs_world_lawful.proofs.LastsEntry.{lasts_on}
use Rattle.qs_world_lawful.proofs.LastsWell.{LastsWell}
use Rattle.qs_world_lawful.proofs.Turning.{some_of}

module _ (book : BookValue) (entry : Entry) (w : LastsWell book) (h : broken book entry ≡ None) where
  abbrev after : BookValue
  after = new book entry w h

  -- ---- a node that runs

  module _ (node : NodeValue) (aside : IsAside node.setting.node.0 node entry) where
    abbrev here : NodeNo
    here = node.setting.node

    pub far : (entry.node.0 == here.0) ≡ false
    far = by (entry.node.0 == here.0) refl
      where
        by : (b : Bool) → (entry.node.0 == here.0) ≡ b → b ≡ false
        by false is = refl
        by true is = absurd (aside.far (same_number entry.node.0 here.0 is))

    pub near : (here.0 == entry.node.0) ≡ false
    near = apart_turned entry.node.0 here.0 far

    pub home_far : (tid : Tid) → tid.home ≡ here → (tid.home.0 == entry.node.0) ≡ false
    home_far tid home = ap (λ (n : NodeNo). n.0 == entry.node.0) home ∙ near

    not_answered : (client : ClientNo) (command : OpenCommand) → lookup (is_at (client_cmp client)) node.commands ≡ Some command → IsAnsweredBy client.0 entry.act → ⊥
    not_answered client command is = of entry.act aside.answers
      where
        of : (act : Act) → AnswersElsewhere node act → IsAnsweredBy client.0 act → ⊥
        of (acts.Answer who line said) none same = cc (sym (subst (λ (c : ClientNo). lookup (is_at (client_cmp c)) node.commands ≡ None) (ap (λ (n : ℕ). record { 0 = n }) same) none) ∙ is)
        of (acts.Begin tid label other) none so = so
        of (acts.Issue tid issuer member number op) none so = so
        of (acts.Serve tid member from number reply) none so = so
        of (acts.Vote tid member ballot covers) none so = so
        of (acts.Ask tid) none so = so
        of (acts.Counted tid peer up_to) none so = so
        of (acts.Decide tid outcome cause) none so = so
        of (acts.Ending tid member) none so = so
        of (acts.Learn tid member outcome) none so = so
        of (acts.Loan tid other) none so = so
        of (acts.Yield tid other) none so = so
        of acts.Tick none so = so
        of (acts.Crash cause) none so = so
        of (acts.Restart inc pend done) none so = so

    clients_on : HoldsClients book node → HoldsClients after node
    clients_on c = record {
      apart = c.apart;
      lines = λ client command is. behind client command.line.line (not_answered client command is) (c.lines client command is);
      labels = λ label begun tid client labelled is owned. owner_on book entry w h tid client (c.labels label begun tid client labelled is owned);
      outcomes = λ tid d is. ended_on book entry w h aside.of_step tid d (c.outcomes tid d is);
      asking = λ tid client part home known undecided asked owner. c.asking tid client part home known undecided asked (owner_back book entry w h tid client (home_far tid home) owner);
    }
      where
        behind : (client : ClientNo) (line : ℕ) → (IsAnsweredBy client.0 entry.act → ⊥) → IsBehind book client line → IsBehind after client line
        behind client line none b =
            let p = owners_keep entry.stamp entry.node.0 entry.act aside.of_step book client.0 b.owner b.there in
            record { owner = p.0; there = p.1; less = ap (λ (k : ℕ). nat_lt k line) (p.2.1 none) ∙ b.less }

    module _ (issued : HoldsIssued book node) (held : HoldsStill book node) where
      at_some : (tid : Tid) (tx : TransactionValue) → find_transaction book tid ≡ Some tx → HoldsTid here node.setting.inc tid tx (face_of node tid)
      at_some tid tx found = subst (λ (o : Option TransactionValue). HoldsAt here node.setting.inc tid o (face_of node tid)) found (held.at tid)

      at_on : (tid : Tid) → HoldsAt here node.setting.inc tid (find_transaction after tid) (face_of node tid)
      at_on tid = by (find_transaction book tid) refl
        where
          by : (o : Option TransactionValue) → find_transaction book tid ≡ o → HoldsAt here node.setting.inc tid (find_transaction after tid) (face_of node tid)
          by (Some tx) found =
              let p = goes_on book entry w h tid tx found in
              subst (λ (o : Option TransactionValue). HoldsAt here node.setting.inc tid o (face_of node tid)) (sym p.1) (of p.0 p.2)
            where
              of : (later : TransactionValue) → Goes book entry w h tid tx later → HoldsTid here node.setting.inc tid later (face_of node tid)
              of later (inl same) = subst (λ (x : TransactionValue). HoldsTid here node.setting.inc tid x (face_of node tid)) (sym same) (at_some tid tx found)
              of later (inr (t, r)) = tid_on entry.node.0 t.now book.place here node.setting.inc tid tx later r near (face_of node tid) (issued tid tx found) (at_some tid tx found)
          by None none = of (new_begins book entry w h tid none)
            where
              empty : HoldsAt here node.setting.inc tid None (face_of node tid)
              empty = subst (λ (o : Option TransactionValue). HoldsAt here node.setting.inc tid o (face_of node tid)) none (held.at tid)

              of : (find_transaction after tid ≡ None) ⊎ ((b : Begins book entry) × (b.tid ≡ tid)) → HoldsAt here node.setting.inc tid (find_transaction after tid) (face_of node tid)
              of (inl gone) = subst (λ (o : Option TransactionValue). HoldsAt here node.setting.inc tid o (face_of node tid)) (sym gone) empty
              of (inr (b, same)) = subst (λ (o : Option TransactionValue). HoldsAt here node.setting.inc tid o (face_of node tid)) (sym (ap (find_transaction after) (sym same) ∙ b.stands))
                  (subst (λ (o : Option Participant). HoldsTid here node.setting.inc tid (begun b.label b.client (ticks_at (slice_get book.nodes entry.node.0))) (record (face_of node tid) { known = o })) (sym empty.known)
                  (begun_away here node.setting.inc tid b.label b.client (ticks_at (slice_get book.nodes entry.node.0)) (face_of node tid) empty away))
                where
                  away : tid.home ≡ here → ⊥
                  away home = aside.far (sym b.home ∙ (ap (λ (t : Tid). t.home.0) same ∙ ap (λ (n : NodeNo). n.0) home))

      once : (tid : Tid) (later : TransactionValue) → find_transaction after tid ≡ Some later → StandsOnce later
      once tid later found = (lasts_on book entry w h).waits tid later found

      waits_some : (tid : Tid) (tx : TransactionValue) → find_transaction book tid ≡ Some tx → HoldsWaits here node.setting.inc tid tx (face_of node tid).waiting node.servers
      waits_some tid tx found = subst (λ (o : Option TransactionValue). HoldsWaitsAt here node.setting.inc tid o (face_of node tid).waiting node.servers) found (held.waits tid)

      waits_at : (tid : Tid) → HoldsWaitsAt here node.setting.inc tid (find_transaction after tid) (face_of node tid).waiting node.servers
      waits_at tid = by (find_transaction book tid) refl
        where
          by : (o : Option TransactionValue) → find_transaction book tid ≡ o → HoldsWaitsAt here node.setting.inc tid (find_transaction after tid) (face_of node tid).waiting node.servers
          by (Some tx) found =
              let p = goes_on book entry w h tid tx found in
              subst (λ (o : Option TransactionValue). HoldsWaitsAt here node.setting.inc tid o (face_of node tid).waiting node.servers) (sym p.1) (of p.0 (once tid p.0 p.1) p.2)
            where
              of : (later : TransactionValue) → StandsOnce later → Goes book entry w h tid tx later → HoldsWaits here node.setting.inc tid later (face_of node tid).waiting node.servers
              of later stands (inl same) = subst (λ (x : TransactionValue). HoldsWaits here node.setting.inc tid x (face_of node tid).waiting node.servers) (sym same) (waits_some tid tx found)
              of later stands (inr (t, r)) = waits_on entry.node.0 t.now book.place here node.setting.inc tid tx later r near stands (face_of node tid).waiting node.servers (waits_some tid tx found)
          by None none = of (new_begins book entry w h tid none)
            where
              idle : HoldsWaitsAt here node.setting.inc tid None (face_of node tid).waiting node.servers
              idle = subst (λ (o : Option TransactionValue). HoldsWaitsAt here node.setting.inc tid o (face_of node tid).waiting node.servers) none (held.waits tid)

              empty : HoldsAt here node.setting.inc tid None (face_of node tid)
              empty = subst (λ (o : Option TransactionValue). HoldsAt here node.setting.inc tid o (face_of node tid)) none (held.at tid)

              begun_waits : (tx : TransactionValue) → StandsOnce tx → HoldsWaits here node.setting.inc tid tx (face_of node tid).waiting node.servers
              begun_waits tx stands = record {
                whole = stands.whole;
                due = λ busy. absurd (cc (busy, idle));
                within = λ server at to. subst (λ (ds : List Delivery). IsWithin (waiting_ops at ds) (standing_ops tx at here server)) (sym (empty.waiting server)) tt;
                once = λ server at clean. stands.once (at_server here server) at clean;
                fits = λ server at to. stands.fits (at_server here server) at;
              }

              of : (find_transaction after tid ≡ None) ⊎ ((b : Begins book entry) × (b.tid ≡ tid)) → HoldsWaitsAt here node.setting.inc tid (find_transaction after tid) (face_of node tid).waiting node.servers
              of (inl gone) = subst (λ (o : Option TransactionValue). HoldsWaitsAt here node.setting.inc tid o (face_of node tid).waiting node.servers) (sym gone) idle
              of (inr (b, same)) =
                  let found = ap (find_transaction after) (sym same) ∙ b.stands in
                  subst (λ (o : Option TransactionValue). HoldsWaitsAt here node.setting.inc tid o (face_of node tid).waiting node.servers) (sym found) (begun_waits (begun b.label b.client (ticks_at (slice_get book.nodes entry.node.0))) (once tid _ found))

      begun_back : (tid : Tid) → tid.home ≡ here → is_some (find_transaction after tid) ≡ true → is_some (find_transaction book tid) ≡ true
      begun_back tid home is = by (find_transaction after tid) refl
        where
          by : (o : Option TransactionValue) → find_transaction after tid ≡ o → is_some (find_transaction book tid) ≡ true
          by None none = absurd (cc (sym (ap is_some none) ∙ is))
          by (Some later) found = ap is_some (stood_away book entry w h tid later (home_far tid home) found).1

      n : NodeOn book after here held.state node.servers
      n = node_on book entry w h here far held.state held.there node.servers held.same.up aside.of_step

      same_on : HoldsNode node n.later
      same_on = record {
        up = n.left.up ∙ held.same.up;
        inc = n.left.inc ∙ held.same.inc;
        begun = n.left.begun ∙ held.same.begun;
        extra = ap machine.extra_of n.left.format ∙ held.same.extra;
        keep = ap machine.keep_of n.left.format ∙ held.same.keep;
        at = held.same.at;
        in_inc = held.same.in_inc;
      }

      pub holds_on : HoldsStill after node
      holds_on = record {
        run = ran_run (entry ∷ []) book ∙ held.run;
        state = n.later;
        there = n.there;
        same = same_on;
        at = at_on;
        begun = λ tid home is. held.begun tid home (begun_back tid home is);
        clients = clients_on held.clients;
        servers = n.holds held.servers;
        waits = waits_at;
      }

    -- and what its files issued is noted or waited for on
    pub notes_on : HoldsIssued book node → HoldsIssued after node
    notes_on issued tid later found = by (find_transaction book tid) refl
      where
        by : (o : Option TransactionValue) → find_transaction book tid ≡ o → HoldsIssuedOf here node.setting.inc tid later (face_of node tid)
        by (Some tx) is =
            let p = goes_on book entry w h tid tx is in
            of later (subst (λ (x : TransactionValue). Goes book entry w h tid tx x) (some_of (sym p.1 ∙ found)) p.2)
          where
            of : (later : TransactionValue) → Goes book entry w h tid tx later → HoldsIssuedOf here node.setting.inc tid later (face_of node tid)
            of later (inl same) = subst (λ (x : TransactionValue). HoldsIssuedOf here node.setting.inc tid x (face_of node tid)) (sym same) (issued tid tx is)
            of later (inr (t, r)) = issued_on entry.node.0 t.now book.place here node.setting.inc tid tx later r near (face_of node tid) (issued tid tx is)
        by None none = of (new_begins book entry w h tid none)
          where
            nothing : (label : List ℕ) (client : ClientNo) (ticks : ℕ) → HoldsIssuedOf here node.setting.inc tid (begun label client ticks) (face_of node tid)
            nothing label client ticks held count low is = absurd (cc is)

            of : (find_transaction after tid ≡ None) ⊎ ((b : Begins book entry) × (b.tid ≡ tid)) → HoldsIssuedOf here node.setting.inc tid later (face_of node tid)
            of (inl gone) = absurd (cc (sym gone ∙ found))
            of (inr (b, same)) = subst (λ (x : TransactionValue). HoldsIssuedOf here node.setting.inc tid x (face_of node tid)) (some_of (sym (ap (find_transaction after) (sym same) ∙ b.stands) ∙ found)) (nothing b.label b.client (ticks_at (slice_get book.nodes entry.node.0)))
