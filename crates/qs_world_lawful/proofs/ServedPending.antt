-- How many changes files have pending after a serve is what the machine counts then.
use Rattle.qs_world_lawful.proofs.Words.{◌≡◌, ◌≢◌, ℕ, ◌+◌, ◌==◌, Bool, true, false, List, [], ◌∷◌, ◌++◌, Option, Some, None, suc, refl, sym, ap, subst, ◌∙◌, arith, length, nat_lt, nat_tests, unwrap_or, nat_le, if◌then◌else◌, tid_cmp, NodeNo, ServerNo, Tid, tid_itself, lookup_put, IsRising, put_rises, tid_total, ServerValue, changes_in, after_serving, served_by, reply_of, TableValue, share_of, nothing_held, served, after_serve, reply_to, holder, Op, Put, Append, Del, Get, Listing, Note, Notes, Bind}
use Rattle.qs_world_lawful.proofs.Words.{Find, Timer, Left, Window, Title, Keep, Fetch, Lend, Extra, Reply, ServerKind, Files, Share, TransactionValue, life, served_in, Part, RequestNo, ServersValue, with_server, is_client, at_server, HoldsFiles, false≢true, eqb-true, eqb-false, some_same}
use Rattle.qs_ipc.specs.Queue.{is_for}
use Rattle.qs_ops.specs.Files.{text_reply}
use Rattle.qs_ops.specs.Server.{reply_in}
use Rattle.qs_ops.specs.Servers as numbers
use Rattle.qs_ops.specs.Spelled.{is_change}
use Rattle.qs_ops.specs.Table.{text_at}
use Rattle.qs_ops.specs.declared.reply.Reply.TheVariants as replies
use Rattle.qs_book_machine.specs.Book.{is_done}
use Rattle.qs_book_machine.specs.Transaction.{part_of}
use Rattle.qs_tm.specs.Members as rules
use Rattle.qs_world_lawful.proofs.MemberTid.{lives_apart}
use Rattle.qs_world_lawful.proofs.Parts.{put_part_apart}
use Rattle.qs_world_lawful.proofs.Pending.{files_here, files_elsewhere, elsewhere_pending}
use Rattle.qs_world_lawful.proofs.Served.{part_served}

-- ---- files that answer `Done` made a change

abbrev answer : ℕ → Option Tid → Reply → Reply
answer operations other free = if nat_le 1024 operations then replies.TooMany else (elim other [ Some tid ↦ replies.Busy tid | None ↦ free ])

not_done : (operations : ℕ) (other : Option Tid) (free : Reply) → is_done free ≡ false → Some (answer operations other free) ≡ Some replies.Done → ⊥
not_done operations other free none e = by (nat_le 1024 operations) other (some_same e)
  where
    no : (r : Reply) → is_done r ≡ false → r ≡ replies.Done → ⊥
    no r out is = false≢true (sym out ∙ ap is_done is)

    by : (b : Bool) (o : Option Tid) → (if b then replies.TooMany else (elim o [ Some tid ↦ replies.Busy tid | None ↦ free ])) ≡ replies.Done → ⊥
    by true o is = cc is
    by false (Some t) is = cc is
    by false None is = no free none is

text_not_done : (o : Option (List ℕ)) → is_done (text_reply o) ≡ false
text_not_done None = refl
text_not_done (Some text) = refl

abbrev made : ℕ → ServerNo
made k = record { 0 = k + 32 }

abbrev is_files : Option ServerNo → Bool
is_files o = elim o [ None ↦ false | Some its ↦ its.0 == 0 ]

no_client : (k : ℕ) → is_files (if nat_lt k 224 then Some (made k) else None) ≡ true → ⊥
no_client k is = by (nat_lt k 224) is
  where
    far : (n : ℕ) → (n + 32 == 0) ≡ true → ⊥
    far n e = grind (arith, nat_tests, e)

    by : (b : Bool) → is_files (if b then Some (made k) else None) ≡ true → ⊥
    by true e = far k e
    by false e = cc e

done_change : (table : TableValue) (tid : Tid) (op : Op) → is_for rules.files_no op ≡ true → reply_to table tid op ≡ Some replies.Done → is_change op ≡ true
done_change table tid (Put name text) fits is = refl
done_change table tid (Append name text) fits is = refl
done_change table tid (Del name) fits is = refl
done_change table tid (Get name) fits is = absurd (not_done (share_of table tid).operations (holder table tid (Get name)) (text_reply (text_at table tid name)) (text_not_done (text_at table tid name)) is)
done_change table tid Listing fits is = absurd (not_done (share_of table tid).operations None _ refl is)
done_change table tid (Note text) fits is = absurd (cc fits)
done_change table tid Notes fits is = absurd (cc fits)
done_change table tid (Bind name text) fits is = absurd (cc fits)
done_change table tid (Find name) fits is = absurd (cc fits)
done_change table tid (Timer name ticks) fits is = absurd (cc fits)
done_change table tid (Left name) fits is = absurd (cc fits)
done_change table tid (Window name text) fits is = absurd (cc fits)
done_change table tid (Title name) fits is = absurd (cc fits)
done_change table tid (Keep name text) fits is = absurd (cc fits)
done_change table tid (Fetch name) fits is = absurd (cc fits)
done_change table tid (Extra code text) fits is = absurd (cc fits)
done_change table tid (Lend client) fits is = absurd (no_client client.0 fits)

-- ---- the count goes on

length_more : {A : Type 0} (xs : List A) (x : A) → length (xs ++ x ∷ []) ≡ length xs + 1
length_more [] x = refl
length_more (y ∷ ys) x = up (length (ys ++ x ∷ [])) (length ys) (length_more ys x)
  where
    up : (a b : ℕ) → a ≡ b + 1 → suc a ≡ suc b + 1
    up a b e = grind (arith, e)

length_same : {A : Type 0} (xs : List A) → length (xs ++ []) ≡ length xs
length_same [] = refl
length_same (y ∷ ys) = ap suc (length_same ys)

share_counts : (share : Share) (op : Op) (reply : Reply) → (reply ≡ replies.Done → is_change op ≡ true) → length (after_serve share op reply).changes ≡ (if is_done reply then length share.changes + 1 else length share.changes)
share_counts share op replies.Done change = by (is_change op) (change refl)
  where
    by : (b : Bool) → b ≡ true → length (share.changes ++ (if b then op ∷ [] else [])) ≡ length share.changes + 1
    by true e = length_more share.changes op
    by false e = absurd (cc e)
share_counts share op (replies.Value text) change = length_same share.changes
share_counts share op (replies.Left ticks) change = length_same share.changes
share_counts share op (replies.Names list) change = length_same share.changes
share_counts share op (replies.Notes list) change = length_same share.changes
share_counts share op (replies.Busy holder) change = length_same share.changes
share_counts share op replies.Absent change = length_same share.changes
share_counts share op replies.TooMany change = refl
share_counts share op replies.TooLong change = length_same share.changes

module _ (servers : ServersValue) (f : HoldsFiles servers) (server : ServerNo) (tid : Tid) (op : Op) (reply : Reply) where
  abbrev u : ServerValue → ServerValue
  u value = after_serving value tid op reply

  files_served : after_serving servers.files tid op reply ≡ record servers.files { table = served servers.files.table tid op reply }
  files_served = ap (λ (k : ServerKind). served_by k tid op reply servers.files) f.kind

  -- files are files still
  pub serve_filed : HoldsFiles (with_server server u servers)
  serve_filed = by (server.0 == numbers.files_no) refl
    where
      of : (files : ServerValue) → (with_server server u servers).files ≡ files → files.kind ≡ Files f.quota → IsRising tid_cmp files.table.shares → HoldsFiles (with_server server u servers)
      of files is kind rising = record { quota = f.quota; kind = ap (λ (s : ServerValue). s.kind) is ∙ kind; rising = subst (λ (s : ServerValue). IsRising tid_cmp s.table.shares) (sym is) rising }

      by : (b : Bool) → (server.0 == numbers.files_no) ≡ b → HoldsFiles (with_server server u servers)
      by true is = of (record servers.files { table = served servers.files.table tid op reply }) (files_here server u servers is ∙ files_served) f.kind
          (put_rises tid_cmp tid_total tid (after_serve (share_of servers.files.table tid) op reply) servers.files.table.shares f.rising)
      by false is = of servers.files (files_elsewhere server u servers is) f.kind f.rising

  module _ (here : NodeNo) (inc stamp : ℕ) (at : RequestNo) (tx : TransactionValue) (before : (part_of tx (at_server here rules.files_no) inc).pending ≡ length (changes_in servers.files tid)) where
    abbrev after : TransactionValue
    after = served_in at (at_server here server) inc stamp (is_done reply) tx

    -- the reply is that of the server
    pub serve_pending : is_client server ≡ false → ((server.0 == numbers.files_no) ≡ true → (is_for rules.files_no op ≡ true) × (reply_of servers.files tid op ≡ Some reply))
        → (part_of after (at_server here rules.files_no) inc).pending ≡ length (changes_in (if is_client server then servers else with_server server u servers).files tid)
    serve_pending server_is replies_so = client (is_client server) server_is
      where
        count_is : (d : Bool) (a b : ℕ) → a ≡ b → (if d then a + 1 else a) ≡ (if d then b + 1 else b)
        count_is d a b e = ap (λ (n : ℕ). if d then n + 1 else n) e

        changed : (is_for rules.files_no op ≡ true) × (reply_of servers.files tid op ≡ Some reply) → reply ≡ replies.Done → is_change op ≡ true
        changed so is = done_change servers.files.table tid op so.0 (sym (ap (λ (k : ServerKind). reply_in servers.files k tid op) f.kind) ∙ (so.1 ∙ ap (λ (r : Reply). Some r) is))

        by : (b : Bool) → (server.0 == numbers.files_no) ≡ b → (part_of after (at_server here rules.files_no) inc).pending ≡ length (changes_in (with_server server u servers).files tid)
        by true is =
            let it : server ≡ rules.files_no = ap (λ (n : ℕ). record { 0 = n }) (eqb-true server.0 numbers.files_no is) in
            let here_is : (part_of after (at_server here rules.files_no) inc).pending ≡ (if is_done reply then (part_of tx (at_server here rules.files_no) inc).pending + 1 else (part_of tx (at_server here rules.files_no) inc).pending) =
            subst (λ (s : ServerNo). (part_of (served_in at (at_server here s) inc stamp (is_done reply) tx) (at_server here rules.files_no) inc).pending ≡ (if is_done reply then (part_of tx (at_server here rules.files_no) inc).pending + 1 else (part_of tx (at_server here rules.files_no) inc).pending)) (sym it)
            (ap (λ (p : Part). p.pending) (part_served at tx (at_server here rules.files_no) inc stamp (is_done reply))) in
            here_is ∙ (count_is (is_done reply) _ _ before
            ∙ sym (ap (λ (s : ServerValue). length (changes_in s tid)) (files_here server u servers is ∙ files_served)
            ∙ (ap (λ (o : Option Share). length (unwrap_or o nothing_held).changes) (lookup_put tid_cmp tid (after_serve (share_of servers.files.table tid) op reply) (tid_itself tid) servers.files.table.shares)
            ∙ share_counts (share_of servers.files.table tid) op reply (changed (replies_so is)))))
        by false is =
            ap (λ (p : Part). p.pending) (put_part_apart (life (at_server here server) inc) _ tx.parts (at_server here rules.files_no) inc (lives_apart here inc server rules.files_no (eqb-false server.0 numbers.files_no is)))
            ∙ (before ∙ sym (elsewhere_pending servers f server tid u is))

        client : (b : Bool) → b ≡ false → (part_of after (at_server here rules.files_no) inc).pending ≡ length (changes_in (if b then servers else with_server server u servers).files tid)
        client true e = absurd (cc e)
        client false e = by (server.0 == numbers.files_no) refl

    -- a client keeps nothing at files
    pub lend_pending : is_client server ≡ true → (part_of after (at_server here rules.files_no) inc).pending ≡ length (changes_in (if is_client server then servers else with_server server u servers).files tid)
    lend_pending server_is = client (is_client server) server_is
      where
        apart : (n : ℕ) → nat_lt 31 n ≡ true → n ≢ 0
        apart n e s = grind (arith, nat_tests, e, s)

        client : (b : Bool) → b ≡ true → (part_of after (at_server here rules.files_no) inc).pending ≡ length (changes_in (if b then servers else with_server server u servers).files tid)
        client true e = ap (λ (p : Part). p.pending) (put_part_apart (life (at_server here server) inc) _ tx.parts (at_server here rules.files_no) inc (lives_apart here inc server rules.files_no (apart server.0 server_is))) ∙ before
        client false e = absurd (cc e)
