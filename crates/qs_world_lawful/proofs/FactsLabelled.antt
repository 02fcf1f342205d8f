-- What holds of a node by itself as a transaction is labelled, begins and is decided, and as commands come and are answered.
use Rattle.qs_world_lawful.proofs.Words.{◌≡◌, ◌⊎◌, inl, inr, ℕ, ◌+◌, Bool, true, false, List, [], ◌∷◌, ◌++◌, length, Option, Some, None, Less, Equal, Greater, refl, sym, ap, subst, ◌∙◌, exact_unsigned, insert_entry, is_at, find, lookup, remove_entry, set_value, if◌then◌else◌, Ordering, same_tid-self, tid_total, same_tid, tid_cmp, ClientNo, NodeNo, Tid, same_node, has_label, is_outcome_of, KeptLabel, Decided, put_rises, client_cmp, Setting, OpenCommand, begun_participant, Manager, Participant, Every}
use Rattle.qs_world_lawful.proofs.Words.{AreNumbered, HasFacts, IsCommand, IsPart, IsRunning}
use Rattle.std.specs.Ordering.{nat_cmp}
use Rattle.qs_node_kept.specs.declared.kept.Kept.{Kept}
use Rattle.qs_tm.specs.Manager as tm
use Rattle.qs_world_lawful.proofs.Apart.{Apart, same_or_apart}
use Rattle.qs_world_lawful.proofs.Faces.{put_apart}
use Rattle.qs_world_lawful.proofs.Marks.{changed_rises, put_there}
use Rattle.qs_world_lawful.proofs.Truths.{clash, of_some, same_self}
use Rattle.qs_world_lawful.proofs.FactsKept.{Commands, each_changed, none_wait, room_on, runs_changed}

-- ---- labels and outcomes

found_more : {A : Type 0} (test : A → Bool) (xs : List A) (x y : A) → find test (xs ++ x ∷ []) ≡ Some y → (find test xs ≡ Some y) ⊎ (x ≡ y)
found_more test [] x y found = by (test x) found
  where
    by : (b : Bool) → (if b then Some x else None) ≡ Some y → (None ≡ Some y) ⊎ (x ≡ y)
    by true found = inr (of_some found)
    by false found = absurd (cc found)
found_more test (z ∷ zs) x y found = by (test z) found (found_more test zs x y)
  where
    by : (b : Bool) → (if b then Some z else find test (zs ++ x ∷ [])) ≡ Some y → (find test (zs ++ x ∷ []) ≡ Some y → (find test zs ≡ Some y) ⊎ (x ≡ y)) → ((if b then Some z else find test zs) ≡ Some y) ⊎ (x ≡ y)
    by true found rest = inl found
    by false found rest = rest found

none_more : {A : Type 0} (test : A → Bool) (xs : List A) (x : A) → find test (xs ++ x ∷ []) ≡ None → (find test xs ≡ None) × (test x ≡ false)
none_more test [] x none = by (test x) refl none
  where
    by : (b : Bool) → test x ≡ b → (if b then Some x else None) ≡ None → (find test [] ≡ None) × (test x ≡ false)
    by true is none = absurd (cc none)
    by false is none = (refl, is)
none_more test (z ∷ zs) x none = by (test z) none (none_more test zs x)
  where
    by : (b : Bool) → (if b then Some z else find test (zs ++ x ∷ [])) ≡ None → (find test (zs ++ x ∷ []) ≡ None → (find test zs ≡ None) × (test x ≡ false)) → ((if b then Some z else find test zs) ≡ None) × (test x ≡ false)
    by true none rest = absurd (cc none)
    by false none rest = rest none

module _ (s : Setting) (c : Commands) (local : Tid → ℕ) where
  -- a label of what no client here owns, or of what was not begun
  pub label_facts : (begun : KeptLabel) → ((tid : Tid) (client : ClientNo) → begun.tid ≡ Some tid → begun.owner ≡ Some client → ⊥) → (m : Manager) (k : Kept) → HasFacts s m k c local → HasFacts s m (record k { labels = k.labels ++ begun ∷ [] }) c local
  label_facts begun unowned m k h = record {
    setting = h.setting;
    room = h.room;
    rising = h.rising;
    parts = h.parts;
    commands = h.commands;
    labels = record {
      homed = λ label other tid client found of owned. homed_of label other tid client of owned (found_more (has_label label) k.labels begun other found);
      runs = λ label other tid client found of owned kept. runs_of label other tid client of owned kept (found_more (has_label label) k.labels begun other found);
    };
  }
    where
      homed_of : (label : List ℕ) (other : KeptLabel) (tid : Tid) (client : ClientNo) → other.tid ≡ Some tid → other.owner ≡ Some client → (find (has_label label) k.labels ≡ Some other) ⊎ (begun ≡ other) → tid.home ≡ s.node
      homed_of label other tid client of owned (inl found) = h.labels.homed label other tid client found of owned
      homed_of label other tid client of owned (inr e) = absurd (unowned tid client (ap (λ (b : KeptLabel). b.tid) e ∙ of) (ap (λ (b : KeptLabel). b.owner) e ∙ owned))

      runs_of : (label : List ℕ) (other : KeptLabel) (tid : Tid) (client : ClientNo) → other.tid ≡ Some tid → other.owner ≡ Some client → find (is_outcome_of tid) k.outcomes ≡ None → (find (has_label label) k.labels ≡ Some other) ⊎ (begun ≡ other) → IsRunning m tid
      runs_of label other tid client of owned kept (inl found) = h.labels.runs label other tid client found of owned kept
      runs_of label other tid client of owned kept (inr e) = absurd (unowned tid client (ap (λ (b : KeptLabel). b.tid) e ∙ of) (ap (λ (b : KeptLabel). b.owner) e ∙ owned))

  -- a transaction begins here, under a label that a client here owns
  module _ (client : ClientNo) (label : List ℕ) (m : Manager) (k : Kept) (h : HasFacts s m k c local) where
    abbrev next : Tid
    next = tm.next_tid m

    abbrev part : Participant
    part = begun_participant client m.ticks

    abbrev begun : KeptLabel
    begun = record { label = label; tid = Some next; owner = Some client }

    new_part : IsPart s (local next) next part
    new_part = record { homed = sym (ap (λ (n : NodeNo). same_node n s.node) h.room.at ∙ same_self s.node.0); slots = refl; logged = λ e. absurd (cc e); began = λ home open_still. h.room.in_inc; numbered = none_wait s.node (local next) _ }

    there : tm.part_of next (tm.begin client m) ≡ Some part
    there = put_there next part (record m { begun = m.begun + 1 })

    elsewhere : (t : Tid) → Apart next t → tm.part_of t (tm.begin client m) ≡ tm.part_of t m
    elsewhere t far = put_apart next t part (record m { begun = m.begun + 1 }) far

    parts_of : (t : Tid) (p : Participant) → tm.part_of t (tm.begin client m) ≡ Some p → (next ≡ t) ⊎ Apart next t → IsPart s (local t) t p
    parts_of t p known (inl e) = subst (λ (x : Tid). IsPart s (local x) x p) e (subst (IsPart s (local next) next) (of_some (sym there ∙ subst (λ (x : Tid). tm.part_of x (tm.begin client m) ≡ Some p) (sym e) known)) new_part)
    parts_of t p known (inr far) = h.parts t p (sym (elsewhere t far) ∙ known)

    its_tid : (other : KeptLabel) (tid : Tid) → begun ≡ other → other.tid ≡ Some tid → next ≡ tid
    its_tid other tid e of = of_some (ap (λ (b : KeptLabel). b.tid) e ∙ of)

    homed_of : (l : List ℕ) (other : KeptLabel) (tid : Tid) (who : ClientNo) → other.tid ≡ Some tid → other.owner ≡ Some who → (find (has_label l) k.labels ≡ Some other) ⊎ (begun ≡ other) → tid.home ≡ s.node
    homed_of l other tid who of owned (inl found) = h.labels.homed l other tid who found of owned
    homed_of l other tid who of owned (inr e) = ap (λ (t : Tid). t.home) (sym (its_tid other tid e of)) ∙ h.room.at

    still : (t : Tid) → IsRunning m t → (next ≡ t) ⊎ Apart next t → IsRunning (tm.begin client m) t
    still t r (inl e) = record { part = part; known = subst (λ (x : Tid). tm.part_of x (tm.begin client m) ≡ Some part) e there; undecided = refl }
    still t r (inr far) = record { part = r.part; known = elsewhere t far ∙ r.known; undecided = r.undecided }

    runs_of : (l : List ℕ) (other : KeptLabel) (tid : Tid) (who : ClientNo) → other.tid ≡ Some tid → other.owner ≡ Some who → find (is_outcome_of tid) k.outcomes ≡ None → (find (has_label l) k.labels ≡ Some other) ⊎ (begun ≡ other) → IsRunning (tm.begin client m) tid
    runs_of l other tid who of owned kept (inl found) = still tid (h.labels.runs l other tid who found of owned kept) (same_or_apart next tid)
    runs_of l other tid who of owned kept (inr e) = record { part = part; known = subst (λ (x : Tid). tm.part_of x (tm.begin client m) ≡ Some part) (its_tid other tid e of) there; undecided = refl }

    pub begin_facts : HasFacts s (tm.begin client m) (record k { labels = k.labels ++ begun ∷ [] }) c local
    begin_facts = record {
      setting = h.setting;
      room = record { at = h.room.at; in_inc = h.room.in_inc; extra = h.room.extra; keep = h.room.keep };
      rising = put_rises tid_cmp tid_total next part m.known h.rising;
      parts = λ t p known. parts_of t p known (same_or_apart next t);
      labels = record {
        homed = λ l other tid who found of owned. homed_of l other tid who of owned (found_more (has_label l) k.labels begun other found);
        runs = λ l other tid who found of owned kept. runs_of l other tid who of owned kept (found_more (has_label l) k.labels begun other found);
      };
      commands = h.commands;
    }

  -- it is decided, which is kept for its owner
  pub decide_facts : (tid : Tid) (f : Participant → Participant) → ((p : Participant) → (f p).engage.home ≡ p.engage.home) → ((p : Participant) → length (f p).engage.peers ≡ length p.engage.peers) → ((p : Participant) → (p.log.prepared ≡ true → p.log.unended ≡ true) → (f p).log.prepared ≡ true → (f p).log.unended ≡ true)
      → ((p : Participant) → (f p).outcome ≡ None → ⊥) → ((p : Participant) (here : NodeNo) (n : ℕ) → AreNumbered here n p.engage p.waiting → AreNumbered here n (f p).engage (f p).waiting) → (decided : Decided) → decided.tid ≡ tid → (m : Manager) (k : Kept) → HasFacts s m k c local → HasFacts s (tm.with_part tid f m) (record k { outcomes = k.outcomes ++ decided ∷ [] }) c local
  decide_facts tid f home slots logged closes numbers decided of_it m k h = record {
    setting = h.setting;
    room = room_on s m _ h.room;
    rising = changed_rises tid f m h.rising;
    parts = each_changed tid f m (λ (t : Tid) (p : Participant). IsPart s (local t) t p) (λ t p far known. h.parts t p known) (λ p known. record { homed = home p ∙ (h.parts tid p known).homed; slots = slots p ∙ (h.parts tid p known).slots; logged = logged p (h.parts tid p known).logged; began = λ at unknown. absurd (closes p unknown); numbered = numbers p s.node (local tid) (h.parts tid p known).numbered });
    labels = record { homed = h.labels.homed; runs = λ label begun t client found of owned kept. runs_of t (h.labels.runs label begun t client found of owned (none_more (is_outcome_of t) k.outcomes decided kept).0) (none_more (is_outcome_of t) k.outcomes decided kept).1 };
    commands = h.commands;
  }
    where
      runs_of : (t : Tid) → IsRunning m t → is_outcome_of t decided ≡ false → IsRunning (tm.with_part tid f m) t
      runs_of t r other = runs_changed tid f m t (λ p e unknown. absurd (clash (sym other ∙ (ap (λ (x : Tid). same_tid x decided.tid) (sym e) ∙ (ap (same_tid tid) of_it ∙ same_tid-self tid))))) r

-- ---- commands

pub every_put : (P : ClientNo × OpenCommand → Type 0) (client : ClientNo) (command : OpenCommand) (es : Commands) → Every P es → ((who : ClientNo) → who.0 ≡ client.0 → P (who, command)) → Every P (insert_entry client_cmp es client command)
every_put P client command [] every new = (new client refl, tt)
every_put P client command (e ∷ es) every new = by (client_cmp client e.0) refl (every_put P client command es every.1 new)
  where
    by : (r : Ordering) → client_cmp client e.0 ≡ r → Every P (insert_entry client_cmp es client command) → Every P (insert_entry client_cmp (e ∷ es) client command)
    by Less is rest = rw is (new client refl, every)
    by Equal is rest = rw is (new e.0 (sym (exact_unsigned client.0 e.0.0 is)), every.1)
    by Greater is rest = rw is (every.0, rest)

pub every_removed : (P : ClientNo × OpenCommand → Type 0) (test : ClientNo → Bool) (es : Commands) → Every P es → Every P (remove_entry test es)
every_removed P test [] every = tt
every_removed P test (e ∷ es) every = by (test e.0) refl (every_removed P test es every.1)
  where
    by : (b : Bool) → test e.0 ≡ b → Every P (remove_entry test es) → Every P (remove_entry test (e ∷ es))
    by true is rest = rw is every.1
    by false is rest = rw is (every.0, rest)

pub every_set : (P : ClientNo × OpenCommand → Type 0) (test : ClientNo → Bool) (f : OpenCommand → OpenCommand) → ((client : ClientNo) (command : OpenCommand) → P (client, command) → P (client, f command)) → (es : Commands) → Every P es → Every P (tm.changed_value test f es)
every_set P test f each es every = by (lookup test es) refl
  where
    put : (xs : Commands) (command : OpenCommand) → lookup test xs ≡ Some command → Every P xs → Every P (set_value test xs (f command))
    put [] command found every = absurd (cc found)
    put (x ∷ xs) command found every = of (test x.0) refl found (λ found. put xs command found every.1)
      where
        of : (b : Bool) → test x.0 ≡ b → lookup test (x ∷ xs) ≡ Some command → (lookup test xs ≡ Some command → Every P (set_value test xs (f command))) → Every P (set_value test (x ∷ xs) (f command))
        of true is found rest = rw is (subst (λ (o : OpenCommand). P (x.0, f o)) (of_some (rw is at found)) (each x.0 x.1 every.0), every.1)
        of false is found rest = rw is (every.0, rest (rw is at found))

    by : (o : Option OpenCommand) → lookup test es ≡ o → Every P (elim o [ None ↦ es | Some v ↦ set_value test es (f v) ])
    by None is = every
    by (Some command) is = put es command is every

-- what is found under a client's number is its command
pub command_in : (P : ClientNo × OpenCommand → Type 0) (client : ClientNo) (command : OpenCommand) (entries : List (ClientNo × OpenCommand)) → Every P entries → lookup (is_at (client_cmp client)) entries ≡ Some command → P (client, command)
command_in P client command [] every found = absurd (cc found)
command_in P client command (e ∷ es) every found = by (nat_cmp client.0 e.0.0) refl found (λ f. command_in P client command es every.1 f)
  where
    by : (r : Ordering) → nat_cmp client.0 e.0.0 ≡ r → lookup (is_at (client_cmp client)) (e ∷ es) ≡ Some command → (lookup (is_at (client_cmp client)) es ≡ Some command → P (client, command)) → P (client, command)
    by Less is found rest = rest (rw is at found)
    by Equal is found rest = subst (λ (c : OpenCommand). P (client, c)) (of_some (rw is at found)) (subst (λ (k : ClientNo). P (k, e.1)) (ap (λ (k : ℕ). record { 0 = k }) (sym (exact_unsigned client.0 e.0.0 is))) every.0)
    by Greater is found rest = rest (rw is at found)

module _ (s : Setting) (m : Manager) (k : Kept) (local : Tid → ℕ) where
  pub commands_facts : (c d : Commands) → Every (λ (entry : ClientNo × OpenCommand). IsCommand s entry.0 entry.1) d → HasFacts s m k c local → HasFacts s m k d local
  commands_facts c d every h = record { setting = h.setting; room = h.room; rising = h.rising; parts = h.parts; labels = h.labels; commands = every }
