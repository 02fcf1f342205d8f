-- As a world begins the machine has of each transaction at a node what stands in doubt in its log, and nothing else.
use Rattle.qs_world_lawful.proofs.Words.{◌≡◌, inr, ℕ, ◌<◌, ◌+◌, ◌==◌, ◌&&◌, ◌||◌, not, Bool, true, false, List, [], ◌∷◌, length, map, Option, Some, None, zero, suc, refl, sym, ap, subst, ◌∙◌, arith, is_some, nat_lt, if◌then◌else◌, nat_tests, slice_get-map, slice_get, option_map, list_all, list_any, same_tid, same_tid-true, NodeNo, Tid, IsCoherent, face, first_book, opening_names, BookValue, cell_of_transaction, find_transaction, is_recoverable, has_commit, is_among, member_at, TransactionValue}
use Rattle.qs_world_lawful.proofs.Words.{has_note, no_part, sent_in, sent_on, Opened, Pending, Part, Record, Prepared, Recovery, Untold, is_in_doubt, is_untold_of, names_transaction, recovery, recovered_of, opened_from, opened_with, IsOpening, is_earlier, is_record, Opening, doubt_at, member_as, share_as, HoldsMember, Lasts, HasAborted, HasCommitted, IsMarked, Every, is_idle, not-true, eqb-true, and_parts, is_zero_plus}
use Rattle.qs_book_machine.specs.Nodes as machine
use Rattle.qs_book_machine.specs.Opening.{opened_node}
use Rattle.qs_book_machine.specs.Transaction.{opened_as, part_of}
use Rattle.qs_book_machine.specs.declared.transaction.Cell.TheVariants as cells
use Rattle.qs_ops.specs.Servers.{files_no}
use Rattle.qs_ops.specs.declared.answer.Cause.TheVariants as causes
use Rattle.qs_record.specs.declared.record.Record.TheVariants as records
use Rattle.qs_world.specs.Histories.{book_of}
use Rattle.qs_world.specs.Openings.{are_unended, is_doubt, is_untold}
use Rattle.qs_world_lawful.proofs.CoherentOpenings.{each_is, every_of, opens_soundly}
use Rattle.qs_world_lawful.proofs.FoundMembers.{all_true, every_two, member_found, member_none}
use Rattle.qs_world_lawful.proofs.FreshFace.{Fresh, FreshAt, IsDoubt}
use Rattle.qs_world_lawful.proofs.FreshLog.{doubts_found}
use Rattle.qs_world_lawful.proofs.LastsOpening.{empty_once, lasts_first, opening_empty}
use Rattle.qs_world_lawful.proofs.LastsWell.{LastsWell, lasts_of}
use Rattle.qs_world_lawful.proofs.LogFrames.{every_on}
use Rattle.qs_world_lawful.proofs.NumberedLogs.{opened_numbered, opening_named}
use Rattle.qs_world_lawful.proofs.OpenedBook.{IsNamedAs, Reads, Stands, logs_read, part_opened}
use Rattle.qs_world_lawful.proofs.OpenedCommits.{none_commits, put_among}
use Rattle.qs_world_lawful.proofs.OpenedLogs.{IsSoundVote, SaysSoundly, log_sound}
use Rattle.qs_world_lawful.proofs.Reopened.{doubt_is}
use Rattle.qs_world_lawful.proofs.RestartVotes.{IsSorted}
use Rattle.qs_world_lawful.proofs.TakenCommits.{IsListed}
use Rattle.qs_world_lawful.proofs.UntoldListed.{untold_listed}
use Rattle.qs_world_lawful.proofs.OpenedVotes.{as_pending, last_as, opened_there}

module _ (o : Opening) (opens : IsOpening o) where
  abbrev pub opened : List Opened
  opened = opened_from o 0 o.size

  pub coherent : IsCoherent opened
  coherent = opens_soundly o opens

  abbrev pub book : BookValue
  book = book_of o

  pub well : LastsWell book
  well = lasts_first opened coherent (opening_named opened (opened_numbered o 0 o.size))

  pub lasts : Lasts book
  lasts = lasts_of book well

  module _ (n : ℕ) (low : n < o.size) where
    abbrev pub here : NodeNo
    here = record { 0 = n }

    abbrev pub one : Opened
    one = opened_with (o.settings n) (recovered_of (o.logs n))

    abbrev pub state : machine.NodeValue
    state = opened_node one

    abbrev pub log : Recovery
    log = recovery (o.logs n)

    one_there : slice_get opened n ≡ Some one
    one_there = opened_there o 0 o.size n low ∙ ap (λ (m : ℕ). Some (opened_with (o.settings m) (recovered_of (o.logs m)))) (zero_plus n)
      where
        zero_plus : (k : ℕ) → 0 + k ≡ k
        zero_plus k = grind (arith)

    pub state_there : slice_get book.nodes n ≡ Some state
    state_there = ap (λ ns. slice_get ns n) (opening_names opened coherent).nodes ∙ (slice_get-map opened_node opened n ∙ ap (option_map opened_node) one_there)

    -- ---- its log

    pub says : SaysSoundly log
    says = log_sound (o.logs n) (every_on (λ (rec : Record). is_record o n rec ≡ true) IsSoundVote sound (o.logs n) (every_of (is_record o n) (o.logs n) (each_is o.size (λ m. list_all (is_record o m) (o.logs m)) opens.logs n low)))
      where
        sound : (rec : Record) → is_record o n rec ≡ true → IsSoundVote rec
        sound (records.Prepare tid server covers changes) is =
            let p = and_parts (is_earlier o tid) _ is in
            let q = and_parts (is_recoverable server.0) _ p.1 in
            (q.0, every_of _ changes q.1)
        sound (records.Commit tid told) is = tt
        sound (records.Aborted tid) is = tt
        sound (records.End tid) is = tt

    unended : are_unended log ≡ true
    unended = each_is o.size (λ m. are_unended (recovery (o.logs m))) opens.unended n low

    pub doubtful : Every (λ (v : Prepared). is_doubt log v ≡ true) log.prepared
    doubtful = every_of (is_doubt log) log.prepared (and_parts (list_all (is_doubt log) log.prepared) _ unended).0

    -- a vote that is marked has its Commit there
    pub marked : Every (IsMarked log) log.prepared
    marked = every_on (λ (v : Prepared). v.committed ≡ true → list_any (is_untold_of v.tid) log.untold ≡ true) (IsMarked log) (λ v has is. in_all log.untold (and_parts (list_all (is_doubt log) log.prepared) _ unended).1 (untold_listed (o.logs n)) v.tid (has is)) log.prepared says.lists
      where
        in_all : (commits : List Untold) → list_all is_untold commits ≡ true → Every (IsListed log.committed) commits → (tid : Tid) → list_any (is_untold_of tid) commits ≡ true → is_among log.committed tid ≡ true
        in_all [] all listed tid any = absurd (cc any)
        in_all (c ∷ commits) all listed tid any = by (is_untold_of tid c) refl any (λ more. in_all commits (and_parts (is_untold c) _ all).1 listed.1 tid more)
          where
            by : (b : Bool) → is_untold_of tid c ≡ b → (b || list_any (is_untold_of tid) commits) ≡ true → (list_any (is_untold_of tid) commits ≡ true → is_among log.committed tid ≡ true) → is_among log.committed tid ≡ true
            by true is h more = subst (λ (t : Tid). is_among log.committed t ≡ true) (same_tid-true c.tid tid is) (listed.0 (and_parts (is_untold c) _ all).0)
            by false is h more = more h

    pub far_of : (v : Prepared) → is_doubt log v ≡ true → v.committed ≡ false → is_among log.committed v.tid ≡ false
    far_of v is clear = of (names_transaction v.tid) (list_any (is_untold_of v.tid) log.untold) (is_among log.committed v.tid) (subst (λ (b : Bool). (b || (names_transaction v.tid && (not (list_any (is_untold_of v.tid) log.untold) && not (list_any (same_tid v.tid) log.committed)))) ≡ true) clear is)
      where
        of : (b c d : Bool) → (b && (not c && not d)) ≡ true → d ≡ false
        of true false false h = refl
        of true false true h = absurd (cc h)
        of true true d h = absurd (cc h)
        of false c d h = absurd (cc h)

    pub sorted : Every (IsSorted log.committed) log.prepared
    sorted = every_two (λ (v : Prepared). is_doubt log v ≡ true) (IsMarked log) (IsSorted log.committed) (λ v doubt mark named. of v doubt mark v.committed refl) log.prepared doubtful marked
      where
        of : (v : Prepared) → is_doubt log v ≡ true → IsMarked log v → (b : Bool) → v.committed ≡ b → is_among log.committed v.tid ≡ v.committed
        of v doubt mark true is = mark is ∙ sym is
        of v doubt mark false is = far_of v doubt is ∙ sym is

    -- ---- what the machine has of a member

    reads : (tid : Tid) (s : ℕ) → Reads book.nodes tid n (o.settings n).inc s (option_map as_pending (doubt_at log.prepared tid s)) book
    reads tid s = subst (λ (p : Option Pending). Reads book.nodes tid n (o.settings n).inc s p book) (last_as tid s log.prepared None)
        (logs_read book.nodes tid n (o.settings n).inc s 0 n opened one one_there (is_zero_plus n) refl (first_book opened) (record { nodes_are = sym (opening_names opened coherent).nodes; stands = refl }))

    named_as : (tid : Tid) (s : ℕ) (tx : TransactionValue) → find_transaction book tid ≡ Some tx → IsNamedAs book.nodes tid n (o.settings n).inc s (option_map as_pending (doubt_at log.prepared tid s)) tx
    named_as tid s tx found = subst (Stands book.nodes tid n (o.settings n).inc s (option_map as_pending (doubt_at log.prepared tid s))) found (reads tid s).stands

    -- ---- what stands in doubt

    pub stands : Every (λ (v : Prepared). is_in_doubt v ≡ true → is_some (find_transaction book v.tid) ≡ true) log.prepared
    stands = every_on (λ (v : Prepared). is_in_doubt v ≡ true → is_some (doubt_at log.prepared v.tid v.server.0) ≡ true) (λ (v : Prepared). is_in_doubt v ≡ true → is_some (find_transaction book v.tid) ≡ true) (λ v has doubt. by v (has doubt) (find_transaction book v.tid) refl) log.prepared (doubts_found log.prepared (λ tid s. None))
      where
        mapped : (d : Option Prepared) → is_some d ≡ true → option_map as_pending d ≡ None → ⊥
        mapped None a b = cc a
        mapped (Some v) a b = cc b

        by : (v : Prepared) → is_some (doubt_at log.prepared v.tid v.server.0) ≡ true → (p : Option TransactionValue) → find_transaction book v.tid ≡ p → is_some (find_transaction book v.tid) ≡ true
        by v has (Some tx) is = ap is_some is
        by v has None is = absurd (mapped (doubt_at log.prepared v.tid v.server.0) has (subst (Stands book.nodes v.tid n (o.settings n).inc v.server.0 (option_map as_pending (doubt_at log.prepared v.tid v.server.0))) is (reads v.tid v.server.0).stands))

    -- what is committed in the log is committed
    pub done_committed : (tid : Tid) → is_among log.committed tid ≡ true → HasCommitted book tid
    done_committed tid among = (lasts.nodes here state state_there).committed tid (put_among tid log.committed [] (inr among))

    -- and at its home what stands in doubt is aborted
    pub aborted : (v : Prepared) → is_doubt log v ≡ true → is_in_doubt v ≡ true → is_some (find_transaction book v.tid) ≡ true → v.tid.home ≡ here → HasAborted book v.tid
    aborted v doubt in_doubt there home = by (find_transaction book v.tid) refl
      where
        named : names_transaction v.tid ≡ true
        named = (and_parts (names_transaction v.tid) _ in_doubt).0

        clear : v.committed ≡ false
        clear = not-true v.committed (and_parts (names_transaction v.tid) _ in_doubt).1

        home_is : v.tid.home.0 ≡ n
        home_is = ap (λ (k : NodeNo). k.0) home

        in_run : nat_lt v.tid.home.0 o.size ≡ true
        in_run = less v.tid.home.0 n o.size home_is low
          where
            less : (a b c : ℕ) → a ≡ b → b < c → nat_lt a c ≡ true
            less a b c e p = grind (arith, nat_tests, e, p)

        none : list_any (has_commit v.tid) book.nodes ≡ false
        none = ap (list_any (has_commit v.tid)) (opening_names opened coherent).nodes
            ∙ none_commits o opens v.tid named in_run (ap (λ (k : ℕ). is_among (recovery (o.logs k)).committed v.tid) home_is ∙ far_of v doubt clear)

        sized : length book.nodes ≡ o.size
        sized = ap length (opening_names opened coherent).nodes ∙ run 0 o.size
          where
            run : (k more : ℕ) → length (map opened_node (opened_from o k more)) ≡ more
            run k zero = refl
            run k (suc more) = ap suc (run (k + 1) more)

        cell : (b c : Bool) → b ≡ false → c ≡ true → (if b then opened_as cells.Commit None else if c then opened_as cells.Abort (Some (causes.Home v.tid.inc)) else opened_as cells.Open None).cell ≡ cells.Abort
        cell b c p q = rw (p, q) refl

        by : (p : Option TransactionValue) → find_transaction book v.tid ≡ p → HasAborted book v.tid
        by None is = absurd (cc (sym (ap is_some is) ∙ there))
        by (Some tx) is = ap cell_of_transaction is ∙ ap Some (ap (λ (x : TransactionValue). x.cell) (named_as v.tid 0 tx is).rest
            ∙ cell (list_any (has_commit v.tid) book.nodes) (nat_lt v.tid.home.0 (length book.nodes)) none (ap (λ (k : ℕ). nat_lt v.tid.home.0 k) sized ∙ in_run))

    -- ---- of each transaction

    module _ (tid : Tid) (tx : TransactionValue) (found : find_transaction book tid ≡ Some tx) where
      part_is : (s : ℕ) → part_of tx (member_at n s) (o.settings n).inc ≡ part_opened (option_map as_pending (doubt_at log.prepared tid s))
      part_is s = (named_as tid s tx found).part

      doubt_kept : (s : ℕ) (v : Prepared) → doubt_at log.prepared tid s ≡ Some v → is_recoverable s ≡ true
      doubt_kept s v is =
          let p = doubt_is (λ (x : Prepared). is_recoverable x.server.0 ≡ true) tid s log.prepared says.kinds v is in
          subst (λ (k : ℕ). is_recoverable k ≡ true) (eqb-true v.server.0 s (and_parts (same_tid v.tid tid) (v.server.0 == s) (and_parts (is_in_doubt v) _ p.1).1).1) p.0

      member_held : (s : ℕ) → HoldsMember tx (member_at n s) (o.settings n).inc (member_as (doubt_at log.prepared tid s))
      member_held s = by (doubt_at log.prepared tid s) refl
        where
          by : (d : Option Prepared) → doubt_at log.prepared tid s ≡ d → HoldsMember tx (member_at n s) (o.settings n).inc (member_as d)
          by None is = member_none tx (member_at n s) (o.settings n).inc (part_is s ∙ ap (λ (d : Option Prepared). part_opened (option_map as_pending d)) is)
          by (Some v) is = member_found tx (member_at n s) (o.settings n).inc (length v.changes) v (doubt_kept s v is) (part_is s ∙ ap (λ (d : Option Prepared). part_opened (option_map as_pending d)) is)

      never_aborted : (s : ℕ) → (part_of tx (member_at n s) (o.settings n).inc).aborted ≡ false
      never_aborted s = ap (λ (p : Part). p.aborted) (part_is s) ∙ by (doubt_at log.prepared tid s)
        where
          by : (d : Option Prepared) → (part_opened (option_map as_pending d)).aborted ≡ false
          by None = refl
          by (Some v) = refl

      fresh_at : FreshAt here (o.settings n).inc log tid tx
      fresh_at = record {
        members = member_held;
        unaborted = rw (never_aborted 0, never_aborted 1, never_aborted 2, never_aborted 4, never_aborted 5, never_aborted 6) refl;
        plain = plain;
        sent = λ peer. ap (λ sent. sent_in (o.settings n).inc (sent_on (record tx { sent = sent }) (record { from = here; to = peer }))) (opening_empty opened tid tx found).sent;
        noted = λ text. ap (λ noted. has_note (record tx { noted = noted }) (record { node = here; inc = (o.settings n).inc; text = text })) (opening_empty opened tid tx found).noted;
        pending = ap (λ (p : Part). p.pending) (part_is files_no) ∙ pending (doubt_at log.prepared tid files_no);
        due = λ busy. ap (λ (p : Part). p.due) (part_is files_no) ∙ due (doubt_at log.prepared tid files_no) busy;
        begun = λ home. (opening_names opened coherent).earlier tid (face tx) (ap (option_map face) found) one (ap (λ (k : NodeNo). slice_get opened k.0) home ∙ one_there);
        once = empty_once tx (opening_empty opened tid tx found);
      }
        where
          plain : (s : ℕ) → is_recoverable s ≡ false → part_of tx (member_at n s) (o.settings n).inc ≡ no_part
          plain s none = by (doubt_at log.prepared tid s) refl
            where
              by : (d : Option Prepared) → doubt_at log.prepared tid s ≡ d → part_of tx (member_at n s) (o.settings n).inc ≡ no_part
              by None is = part_is s ∙ ap (λ (d : Option Prepared). part_opened (option_map as_pending d)) is
              by (Some v) is = absurd (cc (sym (doubt_kept s v is) ∙ none))

          pending : (d : Option Prepared) → (part_opened (option_map as_pending d)).pending ≡ length (share_as d).changes
          pending None = refl
          pending (Some v) = refl

          due : (d : Option Prepared) → is_idle (share_as d) ≡ false → (part_opened (option_map as_pending d)).due ≡ true
          due None e = absurd (cc e)
          due (Some v) e = refl

    pub fresh : Fresh book here (o.settings n).inc log
    fresh = record {
      kinds = all_true (λ (v : Prepared). is_recoverable v.server.0) log.prepared says.kinds;
      sorted = sorted;
      listed = untold_listed (o.logs n);
      doubts = every_two (λ (v : Prepared). is_doubt log v ≡ true) (λ (v : Prepared). is_in_doubt v ≡ true → is_some (find_transaction book v.tid) ≡ true) (λ (v : Prepared). is_in_doubt v ≡ true → IsDoubt book here log v.tid)
          (λ v doubt there in_doubt. record { stands = there in_doubt; away = λ home. aborted v doubt in_doubt (there in_doubt) home; far = far_of v doubt (not-true v.committed (and_parts (names_transaction v.tid) _ in_doubt).1) }) log.prepared doubtful stands;
      committed = done_committed;
      at = fresh_at;
    }
