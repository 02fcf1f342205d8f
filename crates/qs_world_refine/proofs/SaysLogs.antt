-- A record that is appended: the flags say of its transaction what the log says then.
use Rattle.qs_world_refine.proofs.Words.{◌≡◌, ℕ, ◌<◌, ◌&&◌, ◌||◌, ◌⊎◌, inl, inr, ◌==◌, not, Bool, true, false, List, [], ◌∷◌, length, Option, Some, None, refl, sym, ap, subst, ◌∙◌, arith, filter, list_all, list_any, lookup, is_at, nat_tests, same_tid, tid_cmp, NodeNo, Tid, joined, no_nodes, same_node, Nodes, Record, Prepared, Untold, Recovery, found_record, is_vote_of, is_untold_of, InLog, Participant, log, log_if, tid_of, is_forced, NodeValue, Work, part_of, names_node, node_no, is_in_run}
use Rattle.qs_world_refine.proofs.Words.{is_whole_log, AreListed, last_list, tell_at, tell_of_part, lists_others, no_flags, flags_at, IsSaid, AreSaid, SaysOn, list_of, has_doubt, false-or}
use Rattle.qs_engage.specs.Nodes.{has_node}
use Rattle.qs_record.specs.declared.record.Record.TheVariants as records
use Rattle.qs_tm.specs.Outcomes.{in_log, logged}
use Rattle.qs_world.specs.Openings as openings
use Rattle.qs_world.specs.Openings.{is_commit_of}
use Rattle.qs_world_refine.specs.SaidLaws.{is_prepare_of}
use Rattle.qs_world_refine.proofs.Doubts.{is_doubt_of, doubt_same, doubts_ended, doubts_marked, any_last}
use Rattle.qs_world_refine.proofs.Frames.{part_apart, same_record}
use Rattle.qs_world_refine.proofs.LogEnds.{untold_ended}
use Rattle.qs_world_refine.proofs.LogFrames.{record_apart, record_tid}
use Rattle.qs_world_refine.proofs.Maps.{lookup_changed}
use Rattle.qs_world_refine.proofs.NodeLists.{joined_below, joined_named, last_apart, last_now, names_last, none_ended}
use Rattle.qs_world_refine.proofs.Same.{tid_same}
use Rattle.qs_world_refine.proofs.SaysOn.{on_itself, told_changed}
use Rattle.qs_world_refine.proofs.SoundKnown.{same_is}
use Rattle.std.specs.Prelude.{⊤}
use Rattle.qs_world_refine.proofs.WholeKept.{whole_ended, whole_listed}

some_list : (first : NodeNo) (others : List NodeNo) → not (length (first ∷ others) == 0) ≡ true
some_list first others = grind (arith, nat_tests)

-- what a record leaves of its own transaction, over the flags that were
flags_found : (rec : Record) (flags : InLog) (said : Recovery) → flags.listed ≡ list_any (is_untold_of (tid_of rec)) said.untold
    → ((in_log rec flags).prepared ≡ has_doubt (tid_of rec) (found_record said rec)) × ((in_log rec flags).listed ≡ list_any (is_untold_of (tid_of rec)) (found_record said rec).untold)
flags_found (records.Prepare tid server covers changes) flags said listed = (sym (any_last {A = Prepared} (is_doubt_of tid) (record { tid = tid; server = server; covers = covers; changes = changes; committed = false }) (rw (tid_same tid) refl) (filter (λ other. not (is_vote_of tid server other)) said.prepared)), listed)
flags_found (records.Commit tid []) flags said listed = (sym (doubts_ended tid said.prepared), sym (untold_ended tid said.untold))
flags_found (records.Commit tid (first ∷ others)) flags said listed = (sym (doubts_marked tid said.prepared), some_list first others ∙ sym (any_last {A = Untold} (is_untold_of tid) (record { tid = tid; told = first ∷ others }) (tid_same tid) said.untold))
flags_found (records.Aborted tid) flags said listed = (sym (doubts_ended tid said.prepared), sym (untold_ended tid said.untold))
flags_found (records.End tid) flags said listed = (sym (doubts_ended tid said.prepared), sym (untold_ended tid said.untold))

-- a Prepare, or a Commit, is of a transaction that is known
abbrev pub MayLog : Record → Work → Type 0
MayLog rec work = (is_forced rec ≡ false) ⊎ ((part : Participant) × (part_of (tid_of rec) work ≡ Some part))

-- a Commit names those that its node is to tell then
pub record ListsTold (tid : Tid) (told : List NodeNo) (node : NodeValue) : Type 0 where
  pub named : (m : ℕ) → names_node told (node_no m) ≡ true → (m < 16) × (has_node (tell_at tid node) (node_no m) ≡ true)
  pub all : (m : ℕ) → m < 16 → has_node (tell_at tid node) (node_no m) ≡ true → names_node told (node_no m) ≡ true
  pub run : list_all (is_in_run 16) told ≡ true  -- nodes that some run may have,
  pub fresh : (flags_at tid node).listed ≡ false  -- and it is the first
  pub others : not (openings.has_node told tid.home) ≡ true

abbrev pub ListsAt : Record → NodeValue → Type 0
ListsAt (records.Commit tid []) node = ⊤
ListsAt (records.Commit tid (first ∷ others)) node = ListsTold tid (first ∷ others) node
ListsAt rec node = ⊤

pub lists_told : (tid : Tid) (told : List NodeNo) (node : NodeValue) → ListsTold tid told node → ListsAt (records.Commit tid told) node
lists_told tid [] node is = tt
lists_told tid (first ∷ others) node is = is

abbrev pub ListsIt : Record → Work → Type 0
ListsIt rec work = ListsAt rec work.node

-- after a record each Commit is still listed
module _ (node new : NodeValue) (said : Recovery) (same : (t : Tid) → tell_at t new ≡ tell_at t node) (has : AreListed node said) where
  stays : (t : Tid) (m : ℕ) → has_node (tell_at t node) (node_no m) ≡ true → has_node (tell_at t new) (node_no m) ≡ true
  stays t m is = subst (λ (s : Nodes). has_node s (node_no m) ≡ true) (sym (same t)) is

  -- of another transaction
  module _ (t : Tid) (rec : Record) (apart : same_tid t (record_tid rec) ≡ false) where
    names_before : (m : ℕ) → names_node (list_of t (found_record said rec)) (node_no m) ≡ true → names_node (list_of t said) (node_no m) ≡ true
    names_before m names = sym ((record_apart t rec said apart).named m) ∙ names

    other_named : (m : ℕ) → m < 16 → names_node (list_of t (found_record said rec)) (node_no m) ≡ true → has_node (tell_at t new) (node_no m) ≡ true
    other_named m below names = stays t m (has.named t m below (names_before m names))

    other_taken : (m : ℕ) → names_node (list_of t (found_record said rec)) (node_no m) ≡ true → has_node (joined no_nodes (last_list t (found_record said rec))) (node_no m) ≡ true
    other_taken m names = subst (λ (l : List NodeNo). has_node (joined no_nodes l) (node_no m) ≡ true) (sym (last_apart t rec said apart)) (has.taken t m (names_before m names))

  -- of its own
  own : (rec : Record) (lists : (tid : Tid) (first : NodeNo) (others : List NodeNo) → rec ≡ records.Commit tid (first ∷ others) → ListsTold tid (first ∷ others) node) (m : ℕ) → names_node (list_of (record_tid rec) (found_record said rec)) (node_no m) ≡ true
      → (m < 16 → has_node (tell_at (record_tid rec) new) (node_no m) ≡ true) × (has_node (joined no_nodes (last_list (record_tid rec) (found_record said rec))) (node_no m) ≡ true)
  own (records.Prepare tid server covers changes) lists m names = (λ below. stays tid m (has.named tid m below names), has.taken tid m names)
  own (records.Commit tid []) lists m names = absurd (let none : names_node (list_of tid (found_record said (records.Commit tid []))) (node_no m) ≡ false = none_ended tid said.untold (node_no m) in cc (none, names))
  own (records.Commit tid (first ∷ others)) lists m names = by (names_node (list_of tid said) (node_no m)) refl (sym (names_last tid (first ∷ others) said.untold (node_no m)) ∙ names)
    where
      its : ListsTold tid (first ∷ others) node
      its = lists tid first others refl

      last_is : last_list tid (found_record said (records.Commit tid (first ∷ others))) ≡ first ∷ others
      last_is = last_now tid (first ∷ others) said.untold

      told : names_node (first ∷ others) (node_no m) ≡ true
          → (m < 16 → has_node (tell_at tid new) (node_no m) ≡ true) × (has_node (joined no_nodes (last_list tid (found_record said (records.Commit tid (first ∷ others))))) (node_no m) ≡ true)
      told is = let both : (m < 16) × (has_node (tell_at tid node) (node_no m) ≡ true) = its.named m is in
          (λ below. stays tid m both.1, subst (λ (l : List NodeNo). has_node (joined no_nodes l) (node_no m) ≡ true) (sym last_is) (joined_named (first ∷ others) m both.0 is))

      by : (b : Bool) → names_node (list_of tid said) (node_no m) ≡ b → (b || names_node (first ∷ others) (node_no m)) ≡ true
          → (m < 16 → has_node (tell_at tid new) (node_no m) ≡ true) × (has_node (joined no_nodes (last_list tid (found_record said (records.Commit tid (first ∷ others))))) (node_no m) ≡ true)
      by true old is = let below : m < 16 = joined_below (last_list tid said) m (has.taken tid m old) in told (its.all m below (has.named tid m below old))
      by false old is = told is
  own (records.Aborted tid) lists m names = absurd (let none : names_node (list_of tid (found_record said (records.Aborted tid))) (node_no m) ≡ false = none_ended tid said.untold (node_no m) in cc (none, names))
  own (records.End tid) lists m names = absurd (let none : names_node (list_of tid (found_record said (records.End tid))) (node_no m) ≡ false = none_ended tid said.untold (node_no m) in cc (none, names))

  lists_after : (rec : Record) → ((tid : Tid) (first : NodeNo) (others : List NodeNo) → rec ≡ records.Commit tid (first ∷ others) → ListsTold tid (first ∷ others) node) → AreListed new (found_record said rec)
  lists_after rec lists = record { named = λ t m below names. named t m below names (same_tid t (record_tid rec)) refl; taken = λ t m names. taken t m names (same_tid t (record_tid rec)) refl }
    where
      named : (t : Tid) (m : ℕ) → m < 16 → names_node (list_of t (found_record said rec)) (node_no m) ≡ true → (b : Bool) → same_tid t (record_tid rec) ≡ b → has_node (tell_at t new) (node_no m) ≡ true
      named t m below names true its = subst (λ (u : Tid). has_node (tell_at u new) (node_no m) ≡ true) (sym (same_is t (record_tid rec) its)) ((own rec lists m (subst (λ (u : Tid). names_node (list_of u (found_record said rec)) (node_no m) ≡ true) (same_is t (record_tid rec) its) names)).0 below)
      named t m below names false apart = other_named t rec apart m below names

      taken : (t : Tid) (m : ℕ) → names_node (list_of t (found_record said rec)) (node_no m) ≡ true → (b : Bool) → same_tid t (record_tid rec) ≡ b → has_node (joined no_nodes (last_list t (found_record said rec))) (node_no m) ≡ true
      taken t m names true its = subst (λ (u : Tid). has_node (joined no_nodes (last_list u (found_record said rec))) (node_no m) ≡ true) (sym (same_is t (record_tid rec) its)) ((own rec lists m (subst (λ (u : Tid). names_node (list_of u (found_record said rec)) (node_no m) ≡ true) (same_is t (record_tid rec) its) names)).1)
      taken t m names false apart = other_taken t rec apart m names

-- what its node is to tell then is what it names
lists_on : (rec : Record) (node new : NodeValue) (said : Recovery) → ((t : Tid) → tell_at t new ≡ tell_at t node) → ListsAt rec node → AreListed node said → AreListed new (found_record said rec)
lists_on rec node new said same lists has = lists_after node new said same has rec (λ tid first others is. told rec tid first others is lists)
  where
    told : (rec : Record) (tid : Tid) (first : NodeNo) (others : List NodeNo) → rec ≡ records.Commit tid (first ∷ others) → ListsAt rec node → ListsTold tid (first ∷ others) node
    told (records.Commit u []) tid first others is its = absurd (cc (is))
    told (records.Commit u (f ∷ o)) tid first others is its = subst (λ (r : Record). ListsAt r node) is its
    told (records.Prepare u server covers changes) tid first others is its = absurd (cc (is))
    told (records.Aborted u) tid first others is its = absurd (cc (is))
    told (records.End u) tid first others is its = absurd (cc (is))

-- a Commit is of the home, or of a vote in doubt
abbrev pub CommitsOwn : Record → NodeValue → Type 0
CommitsOwn (records.Commit tid told) node = (same_node tid.home node.setting.node ≡ true) ⊎ ((said : Recovery) → AreSaid node said → has_doubt tid said ≡ true)
CommitsOwn rec node = ⊤

logs_own : (rec : Record) (node : NodeValue) → CommitsOwn rec node → (said : Recovery) → AreSaid node said → (t : Tid) → same_node t.home node.setting.node ≡ false → (is_commit_of t rec || false) ≡ true
    → (has_doubt t said ≡ true) ⊎ ((is_prepare_of t rec || false) ≡ true)
logs_own (records.Prepare u server covers changes) node its said is t off any = absurd (cc (any))
logs_own (records.Aborted u) node its said is t off any = absurd (cc (any))
logs_own (records.End u) node its said is t off any = absurd (cc (any))
logs_own (records.Commit u told) node its said is t off any = by its
  where
    alone : (b : Bool) → (b || false) ≡ true → b ≡ true
    alone true is = refl
    alone false is = is

    by : CommitsOwn (records.Commit u told) node → (has_doubt t said ≡ true) ⊎ (false ≡ true)
    by (inl home) = absurd (let here : same_node t.home node.setting.node ≡ true = subst (λ (k : Tid). same_node k.home node.setting.node ≡ true) (sym (same_is t u (alone (same_tid t u) any))) home in cc (here, off))
    by (inr doubt) = inl (subst (λ (k : Tid). has_doubt k said ≡ true) (sym (same_is t u (alone (same_tid t u) any))) (doubt said is))

logs_others : (rec : Record) (node : NodeValue) → ListsAt rec node → (lists_others rec && true) ≡ true
logs_others (records.Prepare tid server covers changes) node lists = refl
logs_others (records.Commit tid []) node lists = refl
logs_others (records.Commit tid (first ∷ others)) node lists = rw (lists.others) refl
logs_others (records.Aborted tid) node lists = refl
logs_others (records.End tid) node lists = refl

-- and the log can still be taken up whole
logs_whole : (rec : Record) (node : NodeValue) (said : Recovery) → ListsAt rec node → AreSaid node said → is_whole_log said ≡ true → is_whole_log (found_record said rec) ≡ true
logs_whole (records.Prepare tid server covers changes) node said lists is all = all
logs_whole (records.Commit tid []) node said lists is all = whole_ended tid said all
logs_whole (records.Commit tid (first ∷ others)) node said lists is all = whole_listed tid (first ∷ others) said lists.run (sym (is tid).listed ∙ lists.fresh) all
logs_whole (records.Aborted tid) node said lists is all = whole_ended tid said all
logs_whole (records.End tid) node said lists is all = whole_ended tid said all

module _ (rec : Record) (work : Work) (may : MayLog rec work) where
  abbrev told : Option Participant → InLog
  told o = elim o [ None ↦ no_flags | Some part ↦ part.log ]

  -- of what is not known no flag stands
  unknown_flags : (rec : Record) → is_forced rec ≡ false → no_flags ≡ in_log rec no_flags
  unknown_flags (records.Prepare tid server covers changes) loose = absurd (cc (loose))
  unknown_flags (records.Commit tid list) loose = absurd (cc (loose))
  unknown_flags (records.Aborted tid) loose = refl
  unknown_flags (records.End tid) loose = refl

  pub flags_logged : flags_at (tid_of rec) (log rec work).node ≡ in_log rec (flags_at (tid_of rec) work.node)
  flags_logged = by may (part_of (tid_of rec) work) refl
    where
      known : (part : Participant) → part_of (tid_of rec) work ≡ Some part → flags_at (tid_of rec) (log rec work).node ≡ in_log rec (flags_at (tid_of rec) work.node)
      known part is = ap told (lookup_changed (is_at (tid_cmp (tid_of rec))) (logged rec) work.node.manager.known part is) ∙ ap (in_log rec) (sym (ap told is))

      by : MayLog rec work → (o : Option Participant) → part_of (tid_of rec) work ≡ o → flags_at (tid_of rec) (log rec work).node ≡ in_log rec (flags_at (tid_of rec) work.node)
      by (inr found) o is = known found.0 found.1
      by (inl loose) (Some part) is = known part is
      by (inl loose) None none =
          ap (λ (es : List (Tid × Participant)). told (lookup (is_at (tid_cmp (tid_of rec))) es)) (Rattle.qs_world_refine.proofs.Maps.changed_none (is_at (tid_cmp (tid_of rec))) (logged rec) work.node.manager.known none)
          ∙ (ap told none ∙ (unknown_flags rec loose ∙ ap (in_log rec) (sym (ap told none))))

  -- whom its node is to tell stays
  tells : (t : Tid) → tell_at t (log rec work).node ≡ tell_at t work.node
  tells t = told_changed no_nodes tell_of_part (is_at (tid_cmp (tid_of rec))) (is_at (tid_cmp t)) (logged rec) (λ part. refl) work.node.manager.known

  pub log_on : ListsIt rec work → CommitsOwn rec work.node → SaysOn work (log rec work)
  log_on lists owns = record {
    setting = refl;
    more = rec ∷ [];
    others = logs_others rec work.node lists;
    own = λ said is t off any. logs_own rec work.node owns said is t off any;
    records = refl;
    forced = ap (λ (f : Bool). work.out.force || f) (false-or (is_forced rec));
    commands = λ is. is;
    said = λ said is t. by said is t (same_tid t (tid_of rec)) refl;
    lists = λ said is has. lists_on rec work.node (log rec work).node said tells lists has;
    whole = λ said is all. logs_whole rec work.node said lists is all;
  }
    where
      by : (said : Recovery) → AreSaid work.node said → (t : Tid) (b : Bool) → same_tid t (tid_of rec) ≡ b → IsSaid (log rec work).node (found_record said rec) t
      by said is t true same = subst (λ (u : Tid). IsSaid (log rec work).node (found_record said rec) u) (sym (same_is t (tid_of rec) same))
          (let found : ((in_log rec (flags_at (tid_of rec) work.node)).prepared ≡ has_doubt (tid_of rec) (found_record said rec)) × ((in_log rec (flags_at (tid_of rec) work.node)).listed ≡ list_any (is_untold_of (tid_of rec)) (found_record said rec).untold) = flags_found rec (flags_at (tid_of rec) work.node) said (is (tid_of rec)).listed in
          record { prepared = ap (λ (f : InLog). f.prepared) flags_logged ∙ found.0; listed = ap (λ (f : InLog). f.listed) flags_logged ∙ found.1 })
      by said is t false apart =
          let same = record_apart t rec said (rw (same_record rec) at apart) in
          let flags : flags_at t (log rec work).node ≡ flags_at t work.node = ap told (part_apart t (tid_of rec) (logged rec) work.node.manager apart) in
          record {
            prepared = ap (λ (f : InLog). f.prepared) flags ∙ ((is t).prepared ∙ sym (doubt_same t said (found_record said rec) same.prepared));
            listed = ap (λ (f : InLog). f.listed) flags ∙ ((is t).listed ∙ sym same.unended);
          }

pub log_if_on : (rec : Option Record) (work : Work) → ((r : Record) → rec ≡ Some r → MayLog r work × (ListsIt r work × CommitsOwn r work.node)) → SaysOn work (log_if rec work)
log_if_on None work may = on_itself work
log_if_on (Some rec) work may = log_on rec work (may rec refl).0 (may rec refl).1.0 (may rec refl).1.1
