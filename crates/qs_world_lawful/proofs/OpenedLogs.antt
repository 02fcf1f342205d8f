-- What a log says of what it names, where its records are such as a run may begin with: votes are of servers that keep them, with their own changes,
-- and a vote that is marked as committed has its Commit with a list.
use Rattle.qs_world_lawful.proofs.Words.{◌≡◌, ℕ, ◌==◌, ◌||◌, ◌++◌, not, Bool, true, false, List, [], ◌∷◌, flat_map, fold, refl, sym, subst, if◌then◌else◌, ⊤, filter, list_any, same_tid, same_tid-self, same_tid-true, NodeNo, ServerNo, Tid, is_recoverable, Op, Record, Prepared, Recovery, Untold, found_commit, found_record, is_untold_of, is_vote_of, mark_committed, names_transaction, nothing_said, recovery, with_list, Every, eqb-true, and_parts}
use Rattle.qs_ipc.specs.Queue.{is_for}
use Rattle.qs_record.specs.declared.record.Record.TheVariants as records
use Rattle.qs_restart.specs.Recovery.{changes_at, ended, files_no, audit_no, is_of}
use Rattle.qs_world_lawful.proofs.LogRecords.{every_append, every_filter, every_map}
use Rattle.qs_world_lawful.proofs.OpenedContents.{AreFor}

-- ---- a record

abbrev pub IsSoundVote : Record → Type 0
IsSoundVote (records.Prepare tid server covers changes) = (is_recoverable server.0 ≡ true) × AreFor server.0 changes
IsSoundVote (records.Commit tid told) = ⊤
IsSoundVote (records.Aborted tid) = ⊤
IsSoundVote (records.End tid) = ⊤

-- its Commit has a list
abbrev pub HasList : List Untold → Prepared → Type 0
HasList untold vote = vote.committed ≡ true → list_any (is_untold_of vote.tid) untold ≡ true

pub record SaysSoundly (said : Recovery) : Type 0 where
  pub kinds : Every (λ (v : Prepared). is_recoverable v.server.0 ≡ true) said.prepared
  pub fits : Every (λ (v : Prepared). AreFor v.server.0 v.changes) said.prepared
  pub files : AreFor 0 said.files
  pub audit : AreFor 1 said.audit
  pub lists : Every (HasList said.untold) said.prepared

-- ---- what is ended

left_any : (t tid : Tid) → same_tid t tid ≡ false → (commits : List Untold) → list_any (is_untold_of t) commits ≡ true → list_any (is_untold_of t) (filter (λ commit. not (is_untold_of tid commit)) commits) ≡ true
left_any t tid far [] h = absurd (cc h)
left_any t tid far (c ∷ commits) h = by (is_untold_of tid c) (is_untold_of t c) refl refl h (left_any t tid far commits)
  where
    clash : same_tid c.tid tid ≡ true → same_tid c.tid t ≡ true → ⊥
    clash a b = cc (far, subst (λ (x : Tid). same_tid x tid ≡ true) (same_tid-true c.tid t b) a)

    by : (a b : Bool) → is_untold_of tid c ≡ a → is_untold_of t c ≡ b → (b || list_any (is_untold_of t) commits) ≡ true → (list_any (is_untold_of t) commits ≡ true → list_any (is_untold_of t) (filter (λ commit. not (is_untold_of tid commit)) commits) ≡ true)
        → list_any (is_untold_of t) (filter (λ commit. not (is_untold_of tid commit)) (c ∷ commits)) ≡ true
    by true true p q h more = absurd (clash p q)
    by true false p q h more = rw p (more h)
    by false true p q h more = rw (p, q) refl
    by false false p q h more = rw (p, q) (more h)

ended_lists : (tid : Tid) (untold : List Untold) (votes : List Prepared) → Every (HasList untold) votes → Every (HasList (filter (λ commit. not (is_untold_of tid commit)) untold)) (filter (λ vote. not (is_of tid vote)) votes)
ended_lists tid untold [] all = tt
ended_lists tid untold (v ∷ votes) all = by (is_of tid v) refl (ended_lists tid untold votes all.1)
  where
    by : (b : Bool) → is_of tid v ≡ b → Every (HasList (filter (λ commit. not (is_untold_of tid commit)) untold)) (filter (λ vote. not (is_of tid vote)) votes)
        → Every (HasList (filter (λ commit. not (is_untold_of tid commit)) untold)) (filter (λ vote. not (is_of tid vote)) (v ∷ votes))
    by true is more = rw is more
    by false is more = rw is ((λ marked. left_any v.tid tid is untold (all.0 marked)), more)

ended_sound : (tid : Tid) (said : Recovery) → SaysSoundly said → SaysSoundly (ended tid said)
ended_sound tid said s = record {
  kinds = every_filter (λ (v : Prepared). is_recoverable v.server.0 ≡ true) (λ vote. not (is_of tid vote)) said.prepared s.kinds;
  fits = every_filter (λ (v : Prepared). AreFor v.server.0 v.changes) (λ vote. not (is_of tid vote)) said.prepared s.fits;
  files = s.files;
  audit = s.audit;
  lists = ended_lists tid said.untold said.prepared s.lists;
}

-- ---- a Commit with a list

more_any : {A : Type 0} (p : A → Bool) (xs ys : List A) → list_any p xs ≡ true → list_any p (xs ++ ys) ≡ true
more_any p [] ys h = absurd (cc h)
more_any p (x ∷ xs) ys h = by (p x) h (more_any p xs ys)
  where
    by : (b : Bool) → (b || list_any p xs) ≡ true → (list_any p xs ≡ true → list_any p (xs ++ ys) ≡ true) → (b || list_any p (xs ++ ys)) ≡ true
    by true h more = refl
    by false h more = more h

last_any : {A : Type 0} (p : A → Bool) (xs : List A) (y : A) → p y ≡ true → list_any p (xs ++ y ∷ []) ≡ true
last_any p [] y is = rw is refl
last_any p (x ∷ xs) y is = by (p x) (last_any p xs y is)
  where
    by : (b : Bool) → list_any p (xs ++ y ∷ []) ≡ true → (b || list_any p (xs ++ y ∷ [])) ≡ true
    by true more = refl
    by false more = more

listed_sound : (tid : Tid) (told : List NodeNo) (said : Recovery) → SaysSoundly said → SaysSoundly (with_list tid told said)
listed_sound tid [] said s = ended_sound tid said s
listed_sound tid (first ∷ more) said s = record {
  kinds = every_map (λ (v : Prepared). is_recoverable v.server.0 ≡ true) (λ (v : Prepared). is_recoverable v.server.0 ≡ true) (mark_committed tid) (λ v k. marked v (λ x. is_recoverable x.server.0 ≡ true) k k) said.prepared s.kinds;
  fits = every_map (λ (v : Prepared). AreFor v.server.0 v.changes) (λ (v : Prepared). AreFor v.server.0 v.changes) (mark_committed tid) (λ v k. marked v (λ x. AreFor x.server.0 x.changes) k k) said.prepared s.fits;
  files = s.files;
  audit = s.audit;
  lists = every_map (HasList said.untold) (HasList (said.untold ++ record { tid = tid; told = first ∷ more } ∷ [])) (mark_committed tid) own said.prepared s.lists;
}
  where
    marked : (v : Prepared) (P : Prepared → Type 0) → P v → P (record v { committed = true }) → P (mark_committed tid v)
    marked v P a b = by (is_of tid v)
      where
        by : (c : Bool) → P (if c then record v { committed = true } else v)
        by true = b
        by false = a

    own : (v : Prepared) → HasList said.untold v → HasList (said.untold ++ record { tid = tid; told = first ∷ more } ∷ []) (mark_committed tid v)
    own v h = by (is_of tid v) refl
      where
        turned : same_tid v.tid tid ≡ true → same_tid tid v.tid ≡ true
        turned e = subst (λ (x : Tid). same_tid tid x ≡ true) (sym (same_tid-true v.tid tid e)) (same_tid-self tid)

        by : (c : Bool) → is_of tid v ≡ c → HasList (said.untold ++ record { tid = tid; told = first ∷ more } ∷ []) (if c then record v { committed = true } else v)
        by true is m = last_any (is_untold_of v.tid) said.untold (record { tid = tid; told = first ∷ more }) (turned is)
        by false is m = more_any (is_untold_of v.tid) said.untold (record { tid = tid; told = first ∷ more } ∷ []) (h m)

-- what a Commit takes of a server is the server's
taken_for : (server : ServerNo) (tid : Tid) (votes : List Prepared) → Every (λ (v : Prepared). AreFor v.server.0 v.changes) votes → AreFor server.0 (flat_map (λ (v : Prepared). v.changes) (filter (is_vote_of tid server) votes))
taken_for server tid [] all = tt
taken_for server tid (v ∷ votes) all = by (is_vote_of tid server v) refl (taken_for server tid votes all.1)
  where
    by : (b : Bool) → is_vote_of tid server v ≡ b → AreFor server.0 (flat_map (λ (v : Prepared). v.changes) (filter (is_vote_of tid server) votes)) → AreFor server.0 (flat_map (λ (v : Prepared). v.changes) (filter (is_vote_of tid server) (v ∷ votes)))
    by true is more = rw is (every_append (λ (op : Op). is_for (record { 0 = server.0 }) op ≡ true) v.changes (flat_map (λ (v : Prepared). v.changes) (filter (is_vote_of tid server) votes))
        (subst (λ (n : ℕ). AreFor n v.changes) (eqb-true v.server.0 server.0 (and_parts (same_tid v.tid tid) (v.server.0 == server.0) is).1) all.0) more)
    by false is more = rw is more

commit_sound : (tid : Tid) (told : List NodeNo) (said : Recovery) → SaysSoundly said → SaysSoundly (found_commit tid told said)
commit_sound tid told said s = listed_sound tid told (record said {
  files = said.files ++ changes_at files_no tid said;
  audit = said.audit ++ changes_at audit_no tid said;
  extra = said.extra ++ changes_at (record { 0 = 6 }) tid said;
  committed = said.committed ++ (if names_transaction tid then tid ∷ [] else []);
}) (record {
  kinds = s.kinds;
  fits = s.fits;
  files = every_append (λ (op : Op). is_for (record { 0 = 0 }) op ≡ true) said.files (changes_at files_no tid said) s.files (taken_for files_no tid said.prepared s.fits);
  audit = every_append (λ (op : Op). is_for (record { 0 = 1 }) op ≡ true) said.audit (changes_at audit_no tid said) s.audit (taken_for audit_no tid said.prepared s.fits);
  lists = s.lists;
})

record_sound : (said : Recovery) (rec : Record) → IsSoundVote rec → SaysSoundly said → SaysSoundly (found_record said rec)
record_sound said (records.Prepare tid server covers changes) sound s = record {
  kinds = every_append (λ (v : Prepared). is_recoverable v.server.0 ≡ true) (filter (λ other. not (is_vote_of tid server other)) said.prepared) (one ∷ []) (every_filter (λ (v : Prepared). is_recoverable v.server.0 ≡ true) (λ other. not (is_vote_of tid server other)) said.prepared s.kinds) (sound.0, tt);
  fits = every_append (λ (v : Prepared). AreFor v.server.0 v.changes) (filter (λ other. not (is_vote_of tid server other)) said.prepared) (one ∷ []) (every_filter (λ (v : Prepared). AreFor v.server.0 v.changes) (λ other. not (is_vote_of tid server other)) said.prepared s.fits) (sound.1, tt);
  files = s.files;
  audit = s.audit;
  lists = every_append (HasList said.untold) (filter (λ other. not (is_vote_of tid server other)) said.prepared) (one ∷ []) (every_filter (HasList said.untold) (λ other. not (is_vote_of tid server other)) said.prepared s.lists) ((λ marked. absurd (cc marked)), tt);
}
  where
    one : Prepared
    one = record { tid = tid; server = server; covers = covers; changes = changes; committed = false }
record_sound said (records.Commit tid told) sound s = commit_sound tid told said s
record_sound said (records.Aborted tid) sound s = ended_sound tid said s
record_sound said (records.End tid) sound s = ended_sound tid said s

pub log_sound : (log : List Record) → Every IsSoundVote log → SaysSoundly (recovery log)
log_sound log all = from log nothing_said all (record { kinds = tt; fits = tt; files = tt; audit = tt; lists = tt })
  where
    from : (log : List Record) (said : Recovery) → Every IsSoundVote log → SaysSoundly said → SaysSoundly (fold found_record said log)
    from [] said all s = s
    from (rec ∷ log) said all s = from log (found_record said rec) all.1 (record_sound said rec all.0 s)
