-- How many changes files have pending is what the machine counts, through each act of the node that serves nothing.
use Rattle.std.proofs.Common.{◌≡◌, ◌∙◌, ℕ, ◌==◌, Bool, true, false, List, Option, Some, None, refl, sym, ap, subst, inl, inr}
use Rattle.std.proofs.lemmas.Bool.{eqb-true, eqb-false}
use Rattle.std.specs.BTreeMap.{is_at}
use Rattle.std.specs.Map.{lookup}
use Rattle.std.specs.Prelude.{◌⊎◌, length, unwrap_or}
use Rattle.qs_base.proofs.Same.{same_tid-self, same_tid-true}
use Rattle.qs_base.specs.Order.{same_tid, tid_cmp}
use Rattle.qs_base.specs.declared.identifiers.ClientNo.{ClientNo}
use Rattle.qs_base.specs.declared.identifiers.Member.{Member}
use Rattle.qs_base.specs.declared.identifiers.NodeNo.{NodeNo}
use Rattle.qs_base.specs.declared.identifiers.Outcome.{Outcome}
use Rattle.qs_base.specs.declared.identifiers.Outcome.TheVariants as outcomes
use Rattle.qs_base.specs.declared.identifiers.ServerNo.{ServerNo}
use Rattle.qs_base.specs.declared.identifiers.Tid.{Tid}
use Rattle.qs_book_journal.specs.declared.entry.Act.{Act}
use Rattle.qs_book_journal.specs.declared.entry.Act.TheVariants as acts
use Rattle.qs_book_laws.proofs.Alikes.{tid_itself}
use Rattle.qs_book_laws.proofs.Maps.{changed_none, lookup_changed, lookup_put}
use Rattle.qs_book_laws.proofs.Turns.{Gives, GivesFor, Obliged, step_turns}
use Rattle.qs_book_machine.specs.Book.{BookValue, find_transaction, inc_at}
use Rattle.qs_book_machine.specs.Clauses.{borrower_at}
use Rattle.qs_book_machine.specs.Lawful.{broken, effect}
use Rattle.qs_book_machine.specs.Transaction.{TransactionValue, changed_value, ended_part, given_back, learnt, learnt_part, life, life_cmp, no_part, part_of, voted, voted_part, yielded_part}
use Rattle.qs_book_machine.specs.declared.transaction.Part.{Part}
use Rattle.qs_ops.specs.Server.{ServerValue, after_notice, after_vote, changes_in, voted_in}
use Rattle.qs_ops.specs.Table.{nothing_held, share_of}
use Rattle.qs_ops.specs.declared.answer.Answer.{Answer}
use Rattle.qs_ops.specs.declared.answer.Cause.{Cause}
use Rattle.qs_ops.specs.declared.operation.Op.{Op}
use Rattle.qs_ops.specs.declared.share.Share.{Share}
use Rattle.qs_ops.specs.declared.server.ServerKind.TheVariants as kinds
use Rattle.qs_ops.specs.declared.vote.Vote.{Vote}
use Rattle.qs_ops.specs.declared.vote.Vote.TheVariants as votes
use Rattle.qs_ops.specs.Servers as numbers
use Rattle.qs_tm.specs.Members.{files_no}
use Rattle.qs_node_servers.specs.Servers.{ServersValue, with_server}
use Rattle.qs_node_step.specs.Deciding.{notice_of}
use Rattle.qs_world.specs.Posting.{entry_of}
use Rattle.qs_world_lawful.specs.Face.{at_server}
use Rattle.qs_world_lawful.specs.Filed.{HoldsFiles}
use Rattle.qs_world_lawful.proofs.Apart.{Apart, same_or_apart}
use Rattle.qs_world_lawful.proofs.EntryTurns.{Begins, Turning, begins, by_entry}
use Rattle.qs_world_lawful.proofs.Files.{files_apart, noted_apart, voted_apart}
use Rattle.qs_world_lawful.proofs.LastsWell.{LastsWell}
use Rattle.qs_world_lawful.proofs.MemberRule.{parts_alike}
use Rattle.qs_world_lawful.proofs.MemberTid.{lives_apart}
use Rattle.qs_world_lawful.proofs.Parts.{changed_part_apart}
use Rattle.qs_world_lawful.proofs.Pending.{files_elsewhere, files_here, gone, learnt_pending, vote_files}

abbrev pub pend : NodeNo → ℕ → Option TransactionValue → ℕ
pend here inc None = 0
pend here inc (Some tx) = (part_of tx (at_server here files_no) inc).pending

abbrev pub CountsSo : NodeNo → ℕ → BookValue → ServersValue → Type 0
CountsSo here inc book servers = (t : Tid) → pend here inc (find_transaction book t) ≡ length (changes_in servers.files t)

-- ---- what a vote leaves of it

abbrev pending_after : Vote → ℕ → ℕ
pending_after votes.ReadOnly n = 0
pending_after votes.Volatile n = n
pending_after votes.Recoverable n = n
pending_after (votes.Abort reason) n = n

part_pending : (ballot : Vote) (p : Part) → (voted_part ballot p).pending ≡ pending_after ballot p.pending
part_pending votes.ReadOnly p = refl
part_pending votes.Volatile p = refl
part_pending votes.Recoverable p = refl
part_pending (votes.Abort reason) p = refl

none_after : (ballot : Vote) → pending_after ballot 0 ≡ 0
none_after votes.ReadOnly = refl
none_after votes.Volatile = refl
none_after votes.Recoverable = refl
none_after (votes.Abort reason) = refl

share_pending : (servers : ServersValue) (f : HoldsFiles servers) (tid : Tid) (ballot : Vote) → length (share_of (voted_in servers.files.table tid ballot) tid).changes ≡ pending_after ballot (length (share_of servers.files.table tid).changes)
share_pending servers f tid votes.ReadOnly = ap (λ (s : Share). length s.changes) (gone servers.files.table tid f.rising)
share_pending servers f tid votes.Volatile = ap (λ (o : Option Share). length (unwrap_or o nothing_held).changes) (lookup_put tid_cmp tid (record (share_of servers.files.table tid) { voted = true }) (tid_itself tid) servers.files.table.shares)
share_pending servers f tid votes.Recoverable = refl
share_pending servers f tid (votes.Abort reason) = ap (λ (o : Option Share). length (unwrap_or o nothing_held).changes) (lookup_put tid_cmp tid (record (share_of servers.files.table tid) { voted = false }) (tid_itself tid) servers.files.table.shares)

-- ---- of a transaction, whatever part is changed

module _ (tx : TransactionValue) (member : Member) (inc : ℕ) where
  abbrev changed_to : (Part → Part) → Part
  changed_to g = unwrap_or (lookup (is_at (life_cmp (life member inc))) (changed_value (is_at (life_cmp (life member inc))) g tx.parts)) no_part

  own_part : (g : Part → Part) (c : ℕ → ℕ) → c 0 ≡ 0 → ((p : Part) → (g p).pending ≡ c p.pending) → (changed_to g).pending ≡ c (part_of tx member inc).pending
  own_part g c none each = by (lookup (is_at (life_cmp (life member inc))) tx.parts) refl
    where
      by : (o : Option Part) → lookup (is_at (life_cmp (life member inc))) tx.parts ≡ o → (changed_to g).pending ≡ c (part_of tx member inc).pending
      by None is = ap (λ (o : Option Part). (unwrap_or o no_part).pending) (changed_none (is_at (life_cmp (life member inc))) g tx.parts is) ∙ (sym none ∙ sym (ap (λ (o : Option Part). c (unwrap_or o no_part).pending) is))
      by (Some p) is = ap (λ (o : Option Part). (unwrap_or o no_part).pending) (lookup_changed (is_at (life_cmp (life member inc))) g tx.parts p is) ∙ (each p ∙ sym (ap (λ (o : Option Part). c (unwrap_or o no_part).pending) is))

module _ (book : BookValue) (here : NodeNo) (stamp : ℕ) (servers : ServersValue) (w : LastsWell book) (quota : ℕ) (kind : servers.files.kind ≡ kinds.Files quota) where
  abbrev inc : ℕ
  inc = inc_at book (record { 0 = here.0 })

  abbrev after : Act → BookValue
  after act = effect book (entry_of here.0 stamp act)

  abbrev P : ℕ → TransactionValue → Type 0
  P c tx = (part_of tx (at_server here files_no) inc).pending ≡ c

  abbrev NoBegin : Act → Type 0
  NoBegin act = (tid : Tid) (label : List ℕ) (client : ClientNo) → act ≡ acts.Begin tid label client → ⊥

  turned : (act : Act) → NoBegin act → broken book (entry_of here.0 stamp act) ≡ None → (t : Tid) (c d : ℕ) → Obliged t (P c) (P d) book stamp here.0 act → (find_transaction book t ≡ None → c ≡ d) → pend here inc (find_transaction book t) ≡ c → pend here inc (find_transaction (after act) t) ≡ d
  turned act none_begins fine t c d g unknown h = by (find_transaction book t) refl
    where
      stays : Begins book (entry_of here.0 stamp act) ⊎ Turning book (entry_of here.0 stamp act) → find_transaction book t ≡ None → find_transaction (after act) t ≡ None
      stays (inl b) none = absurd (none_begins b.tid b.label b.client b.act)
      stays (inr turning) none = turning.turned.none t none

      by : (o : Option TransactionValue) → find_transaction book t ≡ o → pend here inc (find_transaction (after act) t) ≡ d
      by None none = ap (pend here inc) (stays (by_entry book (entry_of here.0 stamp act) w.inv fine) none) ∙ (sym (ap (pend here inc) none) ∙ (h ∙ unknown none))
      by (Some tx) found = let s = step_turns t (P c) (P d) book (entry_of here.0 stamp act) w.inv fine g (record { tx = tx; found = found; holds = sym (ap (pend here inc) found) ∙ h }) in ap (pend here inc) s.found ∙ s.holds

  module _ (h : CountsSo here inc book servers) where
    plain : (act : Act) → NoBegin act → broken book (entry_of here.0 stamp act) ≡ None → ((t : Tid) (c : ℕ) → Obliged t (P c) (P c) book stamp here.0 act) → CountsSo here inc (after act) servers
    plain act none_begins fine g t = turned act none_begins fine t (length (changes_in servers.files t)) (length (changes_in servers.files t)) (g t (length (changes_in servers.files t))) (λ none. refl) (h t)

    pub c_asked : (tid : Tid) → broken book (entry_of here.0 stamp (acts.Ask tid)) ≡ None → CountsSo here inc (after (acts.Ask tid)) servers
    c_asked tid fine = plain (acts.Ask tid) (λ t l c e. cc e) fine (λ t c. record { own = λ same tx found p. p; other = λ apart tx p. p })

    pub c_counted : (tid : Tid) (peer : NodeNo) (up_to : ℕ) → broken book (entry_of here.0 stamp (acts.Counted tid peer up_to)) ≡ None → CountsSo here inc (after (acts.Counted tid peer up_to)) servers
    c_counted tid peer up_to fine = plain (acts.Counted tid peer up_to) (λ t l c e. cc e) fine (λ t c. record { own = λ same tx found p. p; other = λ apart tx p. p })

    pub c_decided : (tid : Tid) (outcome : Outcome) (cause : Option Cause) → broken book (entry_of here.0 stamp (acts.Decide tid outcome cause)) ≡ None → CountsSo here inc (after (acts.Decide tid outcome cause)) servers
    c_decided tid outcome cause fine = plain (acts.Decide tid outcome cause) (λ t l c e. cc e) fine (λ t c. record { own = λ same tx found p. p; other = λ apart tx p. p })

    pub c_requested : (tid : Tid) (issuer member : Member) (number : ℕ) (op : Op) → broken book (entry_of here.0 stamp (acts.Issue tid issuer member number op)) ≡ None → CountsSo here inc (after (acts.Issue tid issuer member number op)) servers
    c_requested tid issuer member number op fine = plain (acts.Issue tid issuer member number op) (λ t l c e. cc e) fine (λ t c. record { own = λ same tx found p. p; other = λ apart tx p. p })

    pub c_answered : (client : ClientNo) (line : ℕ) (said : Answer) → broken book (entry_of here.0 stamp (acts.Answer client line said)) ≡ None → CountsSo here inc (after (acts.Answer client line said)) servers
    c_answered client line said fine = plain (acts.Answer client line said) (λ t l c e. cc e) fine (λ t c. ((λ node i tx p. p), (λ tx p. p)))

    pub c_ticked : broken book (entry_of here.0 stamp acts.Tick) ≡ None → CountsSo here inc (after acts.Tick) servers
    c_ticked fine = plain acts.Tick (λ t l c e. cc e) fine (λ t c tx p. p)

    pub c_yielded : (tid : Tid) (client : ClientNo) → broken book (entry_of here.0 stamp (acts.Yield tid client)) ≡ None → CountsSo here inc (after (acts.Yield tid client)) servers
    c_yielded tid client fine = plain (acts.Yield tid client) (λ t l c e. cc e) fine (λ t c. gives t c (borrower_at client here.0))
      where
        gives : (t : Tid) (c : ℕ) (o : Option Member) → GivesFor t (P c) (P c) book tid (λ other. given_back other (inc_at book (record { 0 = here.0 }))) o
        gives t c None = λ tx p. p
        gives t c (Some other) = record { own = λ same tx found p. parts_alike (λ (x : Part). x.pending) (life other inc) yielded_part (λ x. refl) tx.parts (at_server here files_no) inc ∙ p; other = λ apart tx p. p }

    -- what begins has nothing pending
    pub c_begun : (tid : Tid) (label : List ℕ) (client : ClientNo) → broken book (entry_of here.0 stamp (acts.Begin tid label client)) ≡ None → CountsSo here inc (after (acts.Begin tid label client)) servers
    c_begun tid label client fine t = by (same_or_apart b.tid t)
      where
        b : Begins book (entry_of here.0 stamp (acts.Begin tid label client))
        b = begins book (entry_of here.0 stamp (acts.Begin tid label client)) w.inv fine tid label client refl

        by : (b.tid ≡ t) ⊎ Apart b.tid t → pend here inc (find_transaction (after (acts.Begin tid label client)) t) ≡ length (changes_in servers.files t)
        by (inl same) = subst (λ (u : Tid). pend here inc (find_transaction (after (acts.Begin tid label client)) u) ≡ length (changes_in servers.files u)) same (ap (pend here inc) b.stands ∙ (sym (ap (pend here inc) b.new) ∙ h b.tid))
        by (inr far) = ap (pend here inc) (b.others t far) ∙ h t

    -- ---- acts at a server

    pub c_ended : (tid : Tid) (server : ServerNo) → (server.0 == numbers.files_no) ≡ false → broken book (entry_of here.0 stamp (acts.Ending tid (at_server here server))) ≡ None → (u : ServerValue → ServerValue) → CountsSo here inc (after (acts.Ending tid (at_server here server))) (with_server server u servers)
    c_ended tid server far fine u t = turned (acts.Ending tid (at_server here server)) (λ t l c e. cc e) fine t (length (changes_in servers.files t)) (length (changes_in (with_server server u servers).files t))
        (record { own = λ same tx found p. ap (λ (x : Part). x.pending) (changed_part_apart (life (at_server here server) inc) ended_part tx.parts (at_server here files_no) inc (lives_apart here inc server files_no (eqb-false server.0 numbers.files_no far))) ∙ (p ∙ same_count); other = λ apart tx p. p ∙ same_count }) (λ none. same_count) (h t)
      where
        same_count : length (changes_in servers.files t) ≡ length (changes_in (with_server server u servers).files t)
        same_count = ap (λ (v : ServerValue). length (changes_in v t)) (sym (files_elsewhere server u servers far))

    -- a server's own transaction, and each other
    module _ (tid : Tid) (server : ServerNo) (u : ServerValue → ServerValue) (c : ℕ → ℕ) (none : c 0 ≡ 0) (g : Part → Part) (each : (p : Part) → (g p).pending ≡ c p.pending)
        (own : (server.0 == numbers.files_no) ≡ true → length (changes_in (with_server server u servers).files tid) ≡ c (length (changes_in servers.files tid)))
        (others : (t : Tid) → Apart tid t → length (changes_in (with_server server u servers).files t) ≡ length (changes_in servers.files t)) where
      -- a change of that server's part of that transaction
      abbrev parted : TransactionValue → Part
      parted tx = unwrap_or (lookup (is_at (life_cmp (life (at_server here files_no) inc))) (changed_value (is_at (life_cmp (life (at_server here server) inc))) g tx.parts)) no_part

      at_files : (tx : TransactionValue) (k : ℕ) → (part_of tx (at_server here files_no) inc).pending ≡ length (changes_in servers.files tid) → (parted tx).pending ≡ length (changes_in (with_server server u servers).files tid)
      at_files tx k p = by (server.0 == numbers.files_no) refl
        where
          by : (b : Bool) → (server.0 == numbers.files_no) ≡ b → (parted tx).pending ≡ length (changes_in (with_server server u servers).files tid)
          by true is = let it : server ≡ files_no = ap (λ (n : ℕ). record { 0 = n }) (eqb-true server.0 numbers.files_no is) in
              subst (λ (s : ServerNo). (unwrap_or (lookup (is_at (life_cmp (life (at_server here files_no) inc))) (changed_value (is_at (life_cmp (life (at_server here s) inc))) g tx.parts)) no_part).pending ≡ length (changes_in (with_server server u servers).files tid)) (sym it)
              (own_part tx (at_server here files_no) inc g c none each ∙ (ap c p ∙ sym (own is)))
          by false is = ap (λ (x : Part). x.pending) (changed_part_apart (life (at_server here server) inc) g tx.parts (at_server here files_no) inc (lives_apart here inc server files_no (eqb-false server.0 numbers.files_no is)))
              ∙ (p ∙ sym (ap (λ (v : ServerValue). length (changes_in v tid)) (files_elsewhere server u servers is)))

      at_each : (act : Act) (f : TransactionValue → TransactionValue) → NoBegin act → broken book (entry_of here.0 stamp act) ≡ None → (find_transaction book tid ≡ None → ⊥) → ((tx : TransactionValue) → part_of (f tx) (at_server here files_no) inc ≡ parted tx)
          → ((t : Tid) (a b : ℕ) → Gives t (P a) (P b) book tid f → Obliged t (P a) (P b) book stamp here.0 act) → CountsSo here inc (after act) (with_server server u servers)
      at_each act f none_begins fine known parts gives t = by (same_or_apart tid t)
        where
          by : (tid ≡ t) ⊎ Apart tid t → pend here inc (find_transaction (after act) t) ≡ length (changes_in (with_server server u servers).files t)
          by (inl same) = subst (λ (x : Tid). pend here inc (find_transaction (after act) x) ≡ length (changes_in (with_server server u servers).files x)) same
              (turned act none_begins fine tid (length (changes_in servers.files tid)) (length (changes_in (with_server server u servers).files tid))
              (gives tid (length (changes_in servers.files tid)) (length (changes_in (with_server server u servers).files tid))
              (record { own = λ near tx found p. ap (λ (x : Part). x.pending) (parts tx) ∙ at_files tx 0 p; other = λ apart tx p. absurd (self apart) })) (λ none. absurd (known none)) (h tid))
            where
              self : same_tid tid tid ≡ false → ⊥
              self apart = let on : same_tid tid tid ≡ true = same_tid-self tid in cc (on, apart)
          by (inr far) = turned act none_begins fine t (length (changes_in servers.files t)) (length (changes_in (with_server server u servers).files t))
              (gives t (length (changes_in servers.files t)) (length (changes_in (with_server server u servers).files t))
              (record { own = λ near tx found p. absurd (clash near); other = λ apart tx p. p ∙ sym (others t far) })) (λ none. sym (others t far)) (h t)
            where
              clash : same_tid tid t ≡ true → ⊥
              clash near = far.differ (same_tid-true tid t near)

    pub c_cast : (tid : Tid) (server : ServerNo) (ballot : Vote) (covers : ℕ) → (find_transaction book tid ≡ None → ⊥) → HoldsFiles servers → broken book (entry_of here.0 stamp (acts.Vote tid (at_server here server) ballot covers)) ≡ None
        → CountsSo here inc (after (acts.Vote tid (at_server here server) ballot covers)) (with_server server (λ value. after_vote value tid ballot) servers)
    c_cast tid server ballot covers known f fine = at_each tid server (λ value. after_vote value tid ballot) (pending_after ballot) (none_after ballot) (voted_part ballot) (part_pending ballot)
        (λ is. ap (λ (s : ServerValue). length (changes_in s tid)) (files_here server (λ value. after_vote value tid ballot) servers is ∙ vote_files servers f server tid ballot) ∙ share_pending servers f tid ballot)
        (λ t far. files_apart server (λ value. after_vote value tid ballot) servers t (λ value. voted_apart tid t ballot value far))
        (acts.Vote tid (at_server here server) ballot covers) (voted (at_server here server) inc ballot) (λ t l c e. cc e) fine known (λ tx. refl) (λ t a b gives. gives)

    pub c_learnt : (tid : Tid) (server : ServerNo) (outcome : Outcome) → (find_transaction book tid ≡ None → ⊥) → HoldsFiles servers → broken book (entry_of here.0 stamp (acts.Learn tid (at_server here server) outcome)) ≡ None
        → CountsSo here inc (after (acts.Learn tid (at_server here server) outcome)) (with_server server (λ value. after_notice value tid (notice_of outcome)) servers)
    c_learnt tid server outcome known f fine = at_each tid server (λ value. after_notice value tid (notice_of outcome)) (λ n. 0) refl (learnt_part outcome) (none outcome)
        (λ is. learnt_pending servers f server tid outcome is)
        (λ t far. files_apart server (λ value. after_notice value tid (notice_of outcome)) servers t (λ value. noted_apart tid t (notice_of outcome) value far))
        (acts.Learn tid (at_server here server) outcome) (learnt (at_server here server) inc outcome) (λ t l c e. cc e) fine known (parts outcome) (λ t a b gives. gives)
      where
        none : (o : Outcome) (p : Part) → (learnt_part o p).pending ≡ 0
        none outcomes.Commit p = refl
        none outcomes.Abort p = refl

        parts : (o : Outcome) (tx : TransactionValue) → part_of (learnt (at_server here server) inc o tx) (at_server here files_no) inc ≡ unwrap_or (lookup (is_at (life_cmp (life (at_server here files_no) inc))) (changed_value (is_at (life_cmp (life (at_server here server) inc))) (learnt_part o) tx.parts)) no_part
        parts outcomes.Commit tx = refl
        parts outcomes.Abort tx = refl
