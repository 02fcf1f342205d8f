-- What is in doubt in a log is pending again at files and audit of the node, and at the machine's tables of them where it is not crossed.
use Rattle.qs_world_lawful.proofs.Words.{◌≡◌, ℕ, ◌==◌, ◌&&◌, ◌||◌, not, Bool, true, false, List, [], ◌∷◌, map, flat_map, fold, refl, sym, ap, subst, ◌∙◌, arith, if◌then◌else◌, nat_tests, fold-append, filter, list_all, Tid, BookValue, crossed_in, find_transaction, is_recoverable, is_among, member_at, ServerValue, TableValue, kept, Op, Prepared, is_in_doubt, names_transaction, open_vote, prepare_of, ServersValue, Every, HoldsTable, eqb-true, and_parts}
use Rattle.qs_book_machine.specs.Restart.{changes_at, keep_found}
use Rattle.qs_ops.specs.Servers.{audit_no, extra_no, files_no}
use Rattle.qs_ops.specs.declared.server.ServerKind.TheVariants as kinds
use Rattle.qs_ops.specs.declared.share.KeptChanges.{KeptChanges}
use Rattle.qs_node_step.specs.Opening.{keep_changes}
use Rattle.qs_world.specs.Moves as moves
use Rattle.qs_world_lawful.proofs.RestartVotes.{IsSorted}
use Rattle.qs_world_lawful.proofs.Tables.{hide_table, put_table}

-- ---- at the node

-- a vote in doubt is pending again at its server
abbrev pub take_changes : ℕ → TableValue → Prepared → TableValue
take_changes s table vote = if is_in_doubt vote && (vote.server.0 == s) then kept table (record { tid = vote.tid; changes = vote.changes }) else table

-- the two that keep their changes in the log have these tables, and all else is as it was
pub record HaveTables (old new : ServersValue) (files audit : TableValue) : Type 0 where
  pub files_are : new.files ≡ record old.files { table = files }
  pub audit_is : new.audit ≡ record old.audit { table = audit }
  pub names_same : new.names ≡ old.names
  pub timers_same : new.timers ≡ old.timers
  pub windows_same : new.windows ≡ old.windows
  pub scratch_same : new.scratch ≡ old.scratch
  pub extra_same : new.extra ≡ old.extra

-- files are files, audit is audit, and there is no further server
pub record HasLogged (servers : ServersValue) : Type 0 where
  pub quota : ℕ
  pub files : servers.files.kind ≡ kinds.Files quota
  pub audit : servers.audit.kind ≡ kinds.Audit
  pub extra : servers.extra.kind ≡ kinds.Nothing

module _ (servers : ServersValue) (h : HasLogged servers) (v : Prepared) where
  abbrev now : ServersValue
  now = keep_changes servers (prepare_of v)

  abbrev k : KeptChanges
  k = record { tid = v.tid; changes = v.changes }

  abbrev One : Bool → Bool → Type 0
  One f a = HaveTables servers now (if f then kept servers.files.table k else servers.files.table) (if a then kept servers.audit.table k else servers.audit.table)

  kept_one : is_recoverable v.server.0 ≡ true → One (v.server.0 == files_no) (v.server.0 == audit_no)
  kept_one recoverable = by (v.server.0 == files_no) (v.server.0 == audit_no) refl refl
    where
      extra_is : (n : ℕ) → is_recoverable n ≡ true → (n == files_no) ≡ false → (n == audit_no) ≡ false → n ≡ extra_no
      extra_is n e f g = grind (arith, nat_tests, e, f, g)

      by : (f a : Bool) → (v.server.0 == files_no) ≡ f → (v.server.0 == audit_no) ≡ a → One f a
      by true true f a = absurd (cc (rw (eqb-true v.server.0 files_no f) at a))
      by true false f a = rw f (record { files_are = rw (h.files) refl; audit_is = refl; names_same = refl; timers_same = refl; windows_same = refl; scratch_same = refl; extra_same = refl })
      by false true f a = rw (f, a) (record { files_are = refl; audit_is = rw (h.audit) refl; names_same = refl; timers_same = refl; windows_same = refl; scratch_same = refl; extra_same = refl })
      by false false f a = rw (extra_is v.server.0 recoverable f a) (record { files_are = refl; audit_is = refl; names_same = refl; timers_same = refl; windows_same = refl; scratch_same = refl; extra_same = rw (h.extra) refl })

tables_then : (old mid new : ServersValue) (f a g b : TableValue) → HaveTables old mid f a → HaveTables mid new g b → HaveTables old new g b
tables_then old mid new f a g b p q = record {
  files_are = q.files_are ∙ ap (λ (s : ServerValue). record s { table = g }) p.files_are;
  audit_is = q.audit_is ∙ ap (λ (s : ServerValue). record s { table = b }) p.audit_is;
  names_same = q.names_same ∙ p.names_same;
  timers_same = q.timers_same ∙ p.timers_same;
  windows_same = q.windows_same ∙ p.windows_same;
  scratch_same = q.scratch_same ∙ p.scratch_same;
  extra_same = q.extra_same ∙ p.extra_same;
}

tables_self : (servers : ServersValue) → HaveTables servers servers servers.files.table servers.audit.table
tables_self servers = record { files_are = refl; audit_is = refl; names_same = refl; timers_same = refl; windows_same = refl; scratch_same = refl; extra_same = refl }

logged_then : (old new : ServersValue) (f a : TableValue) → HaveTables old new f a → HasLogged old → HasLogged new
logged_then old new f a t h = record {
  quota = h.quota;
  files = ap (λ (s : ServerValue). s.kind) t.files_are ∙ h.files;
  audit = ap (λ (s : ServerValue). s.kind) t.audit_is ∙ h.audit;
  extra = ap (λ (s : ServerValue). s.kind) t.extra_same ∙ h.extra;
}

pub tables_kept : (votes : List Prepared) (servers : ServersValue) → HasLogged servers → list_all (λ (v : Prepared). is_recoverable v.server.0) votes ≡ true
    → HaveTables servers (fold keep_changes servers (map prepare_of (filter is_in_doubt votes))) (fold (take_changes files_no) servers.files.table votes) (fold (take_changes audit_no) servers.audit.table votes)
tables_kept [] servers h may = tables_self servers
tables_kept (v ∷ votes) servers h may = by (is_in_doubt v) refl (λ s t. tables_kept votes s t (and_parts (is_recoverable v.server.0) _ may).1)
  where
    by : (b : Bool) → is_in_doubt v ≡ b
        → ((s : ServersValue) → HasLogged s → HaveTables s (fold keep_changes s (map prepare_of (filter is_in_doubt votes))) (fold (take_changes files_no) s.files.table votes) (fold (take_changes audit_no) s.audit.table votes))
        → HaveTables servers (fold keep_changes servers (map prepare_of (if b then v ∷ filter is_in_doubt votes else filter is_in_doubt votes))) (fold (take_changes files_no) (take_changes files_no servers.files.table v) votes) (fold (take_changes audit_no) (take_changes audit_no servers.audit.table v) votes)
    by false clear more = rw clear (more servers h)
    by true doubt more = rw doubt (tables_then servers mid (fold keep_changes mid (map prepare_of (filter is_in_doubt votes))) files audit _ _ first rest)
      where
        mid : ServersValue
        mid = keep_changes servers (prepare_of v)

        files : TableValue
        files = if v.server.0 == files_no then kept servers.files.table (record { tid = v.tid; changes = v.changes }) else servers.files.table

        audit : TableValue
        audit = if v.server.0 == audit_no then kept servers.audit.table (record { tid = v.tid; changes = v.changes }) else servers.audit.table

        first : HaveTables servers mid files audit
        first = kept_one servers h v (and_parts (is_recoverable v.server.0) _ may).0

        rest : HaveTables mid (fold keep_changes mid (map prepare_of (filter is_in_doubt votes))) (fold (take_changes files_no) files votes) (fold (take_changes audit_no) audit votes)
        rest = subst (λ (t : TableValue). HaveTables mid (fold keep_changes mid (map prepare_of (filter is_in_doubt votes))) (fold (take_changes files_no) t votes) (fold (take_changes audit_no) audit votes)) (ap (λ (s : ServerValue). s.table) first.files_are)
            (subst (λ (t : TableValue). HaveTables mid (fold keep_changes mid (map prepare_of (filter is_in_doubt votes))) (fold (take_changes files_no) mid.files.table votes) (fold (take_changes audit_no) t votes)) (ap (λ (s : ServerValue). s.table) first.audit_is)
            (more mid (logged_then servers mid files audit first h)))

-- ---- at the machine

module _ (here : ℕ) (book : BookValue) (s : ℕ) (done : List Tid) (seen : Tid → Bool) (hides : (tid : Tid) → seen tid ≡ not (crossed_in (find_transaction book tid) (member_at here s))) where
  -- on record is what the Prepare has
  abbrev pub IsKeptAs : Prepared → Type 0
  IsKeptAs vote = names_transaction vote.tid ≡ true → vote.committed ≡ false → (vote.server.0 == s) ≡ true → seen vote.tid ≡ true → changes_at here book s vote.tid ≡ vote.changes

  abbrev kept_of : Prepared → List KeptChanges
  kept_of vote = if names_transaction vote.tid then keep_found here book s done (moves.found_of (open_vote vote)) else []

  one : (v : Prepared) → IsSorted done v → IsKeptAs v → (kept_table held : TableValue) → HoldsTable seen kept_table held → HoldsTable seen (fold kept kept_table (kept_of v)) (take_changes s held v)
  one v sorted as_kept kept_table held h = by (names_transaction v.tid) refl
    where
      at_server : (c : Bool) → (v.server.0 == s) ≡ c → names_transaction v.tid ≡ true → v.committed ≡ false
          → HoldsTable seen (fold kept kept_table (if c && not (false || crossed_in (find_transaction book v.tid) (member_at here s)) then record { tid = v.tid; changes = changes_at here book s v.tid } ∷ [] else [])) (if c then kept held (record { tid = v.tid; changes = v.changes }) else held)
      at_server false is named clear = h
      at_server true is named clear = shown (crossed_in (find_transaction book v.tid) (member_at here s)) refl
        where
          shown : (x : Bool) → crossed_in (find_transaction book v.tid) (member_at here s) ≡ x
              → HoldsTable seen (fold kept kept_table (if not x then record { tid = v.tid; changes = changes_at here book s v.tid } ∷ [] else [])) (kept held (record { tid = v.tid; changes = v.changes }))
          shown true crossed = hide_table seen kept_table held h v.tid (hides v.tid ∙ rw crossed refl) _
          shown false clean = subst (λ (ops : List Op). HoldsTable seen (kept kept_table (record { tid = v.tid; changes = ops })) (kept held (record { tid = v.tid; changes = v.changes }))) (sym (as_kept named clear is own)) (put_table seen kept_table held h v.tid own _)
            where
              own : seen v.tid ≡ true
              own = hides v.tid ∙ rw clean refl

      by : (b : Bool) → names_transaction v.tid ≡ b
          → HoldsTable seen (fold kept kept_table (if b then keep_found here book s done (moves.found_of (open_vote v)) else [])) (if (b && not v.committed) && (v.server.0 == s) then kept held (record { tid = v.tid; changes = v.changes }) else held)
      by false named = h
      by true named = marked v.committed refl
        where
          and_false : (a : Bool) → (a && not (true || crossed_in (find_transaction book v.tid) (member_at here s))) ≡ false
          and_false true = refl
          and_false false = refl

          marked : (c : Bool) → v.committed ≡ c → HoldsTable seen (fold kept kept_table (if (v.server.0 == s) && not (is_among done v.tid || crossed_in (find_transaction book v.tid) (member_at here s)) then record { tid = v.tid; changes = changes_at here book s v.tid } ∷ [] else [])) (if not c && (v.server.0 == s) then kept held (record { tid = v.tid; changes = v.changes }) else held)
          marked true is = rw (sorted named ∙ is, and_false (v.server.0 == s)) h
          marked false is = rw (sorted named ∙ is) (at_server (v.server.0 == s) refl named is)

  pub votes_kept : (votes : List Prepared) → Every (IsSorted done) votes → Every IsKeptAs votes → (kept_table held : TableValue) → HoldsTable seen kept_table held
      → HoldsTable seen (fold kept kept_table (flat_map (keep_found here book s done) (map moves.found_of (map open_vote (filter (λ (vote : Prepared). names_transaction vote.tid) votes))))) (fold (take_changes s) held votes)
  votes_kept [] sorted as_kept kept_table held h = h
  votes_kept (v ∷ votes) sorted as_kept kept_table held h =
      subst (λ (t : TableValue). HoldsTable seen t (fold (take_changes s) (take_changes s held v) votes)) (sym (split (names_transaction v.tid)))
      (votes_kept votes sorted.1 as_kept.1 (fold kept kept_table (kept_of v)) (take_changes s held v) (one v sorted.0 as_kept.0 kept_table held h))
    where
      rest : List KeptChanges
      rest = flat_map (keep_found here book s done) (map moves.found_of (map open_vote (filter (λ (vote : Prepared). names_transaction vote.tid) votes)))

      split : (b : Bool)
          → fold kept kept_table (flat_map (keep_found here book s done) (map moves.found_of (map open_vote (if b then v ∷ filter (λ (vote : Prepared). names_transaction vote.tid) votes else filter (λ (vote : Prepared). names_transaction vote.tid) votes))))
          ≡ fold kept (fold kept kept_table (if b then keep_found here book s done (moves.found_of (open_vote v)) else [])) rest
      split true = fold-append kept kept_table (keep_found here book s done (moves.found_of (open_vote v))) rest
      split false = refl
