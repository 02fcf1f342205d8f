-- What comes to a node comes so from the world: a line from its client, and a message from a channel.
use Rattle.qs_world_lawful.proofs.Words.{◌≡◌, inl, inr, ℕ, ◌+◌, ◌-◌, ◌==◌, ◌≤◌, Bool, true, false, List, [], ◌∷◌, ◌++◌, length, drop, Option, Some, None, zero, suc, refl, sym, ap, subst, ◌∙◌, arith, nat_lt, append_assoc, is_at, list_all, lookup, ◌&&◌, slice_get, if◌then◌else◌, same_tid-self, ClientNo, Member, NodeNo, ServerNo, Tid, Command, ScriptLine, BookValue, is_fresh, Op, Message, client_cmp, OpenCommand, are_rising, labels_begun, next_parcel, Opening, Parcel, World, inc_of, known_of}
use Rattle.qs_world_lawful.proofs.Words.{ComesLine, ComesMessage, Every, GoesTo, HoldsChannels, IsParcel, on_its_way, ops_of, pending, pending_from, way_between, HoldsClient, IsFresh, IsWithin, standing_ops, waiting_ops, eqb-self, eqb-true}
use Rattle.qs_ipc.specs.Queue.{is_for}
use Rattle.qs_book_journal.specs.declared.script_line.Command.TheVariants as commands
use Rattle.qs_packet.specs.declared.message.Message.TheVariants as messages
use Rattle.qs_world.specs.Openings.{is_command, is_in_run, is_line}
use Rattle.qs_world.specs.Posting.{next_line}
use Rattle.qs_world_lawful.specs.Coming.{ComesBehind}
use Rattle.qs_world_lawful.specs.Face.{waiting_at}
use Rattle.qs_world_lawful.specs.Parcels.{HoldsWay, IsBetween}
use Rattle.qs_world_lawful.proofs.Truths.{clash, left_true, node_is, of_some, right_true}

-- ---- lists

every_at : {A : Type 0} (P : A → Type 0) (xs : List A) (i : ℕ) (x : A) → Every P xs → slice_get xs i ≡ Some x → P x
every_at P [] i x every found = absurd (cc found)
every_at P (y ∷ ys) zero x every found = subst P (of_some found) every.0
every_at P (y ∷ ys) (suc i) x every found = every_at P ys i x every.1 found

-- what is at a place stands first behind those before it
dropped : {A : Type 0} (xs : List A) (i : ℕ) (x : A) → slice_get xs i ≡ Some x → drop i xs ≡ x ∷ drop (suc i) xs
dropped [] i x found = absurd (cc found)
dropped (y ∷ ys) zero x found = ap (λ z. z ∷ ys) (of_some found)
dropped (y ∷ ys) (suc i) x found = dropped ys i x found

all_dropped : {A : Type 0} (test : A → Bool) (i : ℕ) (xs : List A) → list_all test xs ≡ true → list_all test (drop i xs) ≡ true
all_dropped test zero xs all = all
all_dropped test (suc i) [] all = refl
all_dropped test (suc i) (x ∷ xs) all = all_dropped test i xs (right_true (test x) (list_all test xs) all)

-- fewer stand too
within_front : (ds more rs : List Op) → IsWithin (ds ++ more) rs → IsWithin ds rs
within_front [] more rs h = tt
within_front (d ∷ ds) more [] h = absurd h
within_front (d ∷ ds) more (r ∷ rs) (inl h) = inl (h.0, within_front ds more rs h.1)
within_front (d ∷ ds) more (r ∷ rs) (inr h) = inr (within_front (d ∷ ds) more rs h)

-- ---- a client's line

module _ (o : Opening) (book : BookValue) (world : World) (k n : ℕ) (h : HoldsClient o book world k) (small : nat_lt k 64 ≡ true) (in_run : nat_lt n world.size ≡ true) (up : world.channels.up n ≡ true)
    (at : (world.clients k).at ≡ n) (nodes : (world.hosts n).node.setting.nodes ≡ world.size) (formed : list_all (is_line world.size k (labels_begun (o.clients k).1)) (o.clients k).1 ≡ true) where
  pub line_comes : (line : ScriptLine) → next_line (world.clients k) ≡ Some line → ComesLine book (world.hosts n).node line
  line_comes line next = of (world.clients k).is_handed refl next
    where
      of : (b : Bool) → (world.clients k).is_handed ≡ b → (if b then None else slice_get (world.clients k).lines 0) ≡ Some line → ComesLine book (world.hosts n).node line
      of true handed next = absurd (cc next)
      of false unhanded next = record {
        free = subst (λ (c : ClientNo). lookup (is_at (client_cmp c)) (world.hosts n).node.commands ≡ None) client_is (none (lookup (is_at (client_cmp (record { 0 = k }))) (world.hosts n).node.commands) refl);
        behind = record { owner = h.behind.owner; there = ap (λ (c : ClientNo). slice_get book.owners c.0) (sym client_is) ∙ h.behind.there; less = left_true (nat_lt h.behind.owner.line line.line) _ (ap (are_rising h.behind.owner.line) (sym lines_are) ∙ h.behind.rise) };
        small = ap (λ (c : ClientNo). nat_lt c.0 64) (sym client_is) ∙ small;
        fresh = λ begins. fresh_of line.command begins refl;
        fits = λ member op is. fits_of member op (left_right member op is);
      }
        where
          lines_are : (world.clients k).lines ≡ line ∷ drop 1 (world.clients k).lines
          lines_are = dropped (world.clients k).lines 0 line next

          is_of : is_line world.size k (labels_begun (o.clients k).1) line ≡ true
          is_of = left_true (is_line world.size k (labels_begun (o.clients k).1) line) _
              (ap (list_all (is_line world.size k (labels_begun (o.clients k).1))) (sym lines_are) ∙ (ap (list_all (is_line world.size k (labels_begun (o.clients k).1))) h.rest.rest ∙ all_dropped (is_line world.size k (labels_begun (o.clients k).1)) h.rest.done (o.clients k).1 formed))

          client_is : record { 0 = k } ≡ line.client
          client_is = ap (λ (i : ℕ). record { 0 = i }) (sym (eqb-true line.client.0 k (left_true (line.client.0 == k) _ is_of)))

          none : (c : Option OpenCommand) → lookup (is_at (client_cmp (record { 0 = k }))) (world.hosts n).node.commands ≡ c → lookup (is_at (client_cmp (record { 0 = k }))) (world.hosts n).node.commands ≡ None
          none None is = is
          none (Some command) is = absurd (clash (sym unhanded ∙ (h.in_hand n in_run up command is).1.0))

          fresh_of : (c : Command) → line.command ≡ commands.Begin → line.command ≡ c → is_fresh book.labels line.label ≡ true
          fresh_of c begins is = first (subst (λ (ls : List ScriptLine). Every (IsFresh book) (labels_begun ls)) lines_are h.fresh)
            where
              first : Every (IsFresh book) (labels_begun (line ∷ drop 1 (world.clients k).lines)) → is_fresh book.labels line.label ≡ true
              first every = (subst (λ (d : Command). Every (IsFresh book) ((elim d [
                | commands.Begin ↦ line.label ∷ []
                | commands.Commit ↦ []
                | commands.Abort ↦ []
                | commands.Take ↦ []
                | commands.Yield ↦ []
                | commands.Request member op ↦ []
              ]) ++ labels_begun (drop 1 (world.clients k).lines))) begins every).0

          left_right : (member : Member) (op : Op) → line.command ≡ commands.Request member op → (is_in_run world.size member.node && is_for member.server op) ≡ true
          left_right member op is = subst (λ (d : Command). is_command world.size (labels_begun (o.clients k).1) line.label d ≡ true) is (right_true (line.client.0 == k) _ is_of)

          fits_of : (member : Member) (op : Op) → (is_in_run world.size member.node && is_for member.server op) ≡ true → (is_for member.server op ≡ true) × (nat_lt member.node.0 (world.hosts n).node.setting.nodes ≡ true)
          fits_of member op fits = (right_true (is_in_run world.size member.node) _ fits, ap (nat_lt member.node.0) nodes ∙ left_true (is_in_run world.size member.node) _ fits)

-- ---- a message

module _ (book : BookValue) (world : World) (n m : ℕ) (h : HoldsChannels book world.size world.channels) (way : HoldsWay book world.channels m n (world.hosts n).node)
    (node : (world.hosts n).node.setting.node.0 ≡ n) (nodes : (world.hosts n).node.setting.nodes ≡ world.size) where
  -- what comes next stands first of what is on its way
  abbrev posted : List Parcel
  posted = world.channels.posted m n (known_of world n m) (inc_of world n)

  abbrev handed : ℕ
  handed = length (world.channels.handed m n (known_of world n m) (inc_of world n))

  abbrev later : ℕ → List Parcel
  later left = pending_from (λ i. pending world.channels m n i (world.channels.inc n)) (suc (world.channels.peer n m)) left

  some : (known inc : ℕ) → known ≤ inc → (inc + 1) - known ≡ suc (inc - known)
  some known inc le = grind (arith, le)

  first_way : (parcel : Parcel) → next_parcel world n m ≡ Some parcel → (rest : List Parcel) × (on_its_way world.channels m n ≡ parcel ∷ rest)
  first_way parcel next = (
    drop (suc handed) posted ++ (later (world.channels.inc m - world.channels.peer n m) ++ world.channels.waits m n),
    ap (λ (l : ℕ). pending_from (λ i. pending world.channels m n i (world.channels.inc n)) (world.channels.peer n m) l ++ world.channels.waits m n) (some (world.channels.peer n m) (world.channels.inc m) (h.known n m))
        ∙ (append_assoc (drop handed posted) (later (world.channels.inc m - world.channels.peer n m)) (world.channels.waits m n)
        ∙ ap (λ (ps : List Parcel). ps ++ (later (world.channels.inc m - world.channels.peer n m) ++ world.channels.waits m n)) (dropped posted handed parcel next)),
  )

  pub message_comes : (parcel : Parcel) → next_parcel world n m ≡ Some parcel → ComesMessage book (world.hosts n).node (record { 0 = m }) parcel.message
  message_comes parcel next = record {
    other = ap (λ (i : ℕ). m == i) node ∙ its.between.other;
    in_run = ap (nat_lt m) nodes ∙ its.between.from;
    goes = goes_to parcel.message its.goes;
    says = its.says;
    behind = behind_of parcel.message refl;
  }
    where
      its : IsParcel book world.size m n parcel
      its = every_at (IsParcel book world.size m n) (world.channels.posted m n (known_of world n m) (inc_of world n)) (length (world.channels.handed m n (known_of world n m) (inc_of world n))) parcel (h.posted m n (known_of world n m) (inc_of world n)) next

      goes_to : (message : Message) → GoesTo n message → GoesTo (world.hosts n).node.setting.node.0 message
      goes_to message goes = subst (λ (i : ℕ). GoesTo i message) (sym node) goes

      behind_of : (message : Message) → parcel.message ≡ message → ComesBehind book (world.hosts n).node (record { 0 = m }) message
      behind_of (messages.Request tid label member number issuer op) is = λ tx found. subst (λ (here : NodeNo). IsWithin (waiting_ops (record { link = record { from = record { 0 = m }; to = here }; number = number }) (waiting_at (world.hosts n).node tid member.server) ++ op ∷ [])
          (standing_ops tx (record { link = record { from = record { 0 = m }; to = here }; number = number }) here member.server)) (sym (node_is (world.hosts n).node.setting.node (record { 0 = n }) node))
          (within_front (waiting_ops (way_between m n number) (waiting_at (world.hosts n).node tid member.server) ++ op ∷ []) (ops_of tid member.server number (first_way parcel next).0) (standing_ops tx (way_between m n number) (record { 0 = n }) member.server)
          (subst (λ (ds : List Op). IsWithin ds (standing_ops tx (way_between m n number) (record { 0 = n }) member.server)) (whole_ops tid label member number issuer op is) (way tid tx member.server number found)))
        where
          first_op : (tid : Tid) (label : List ℕ) (member : Member) (number : ℕ) (issuer : ServerNo) (op : Op) → parcel.message ≡ messages.Request tid label member number issuer op → (rest : List Parcel) → ops_of tid member.server number (parcel ∷ rest) ≡ op ∷ ops_of tid member.server number rest
          first_op tid label member number issuer op is rest = rw (is, same_tid-self tid, eqb-self member.server.0, eqb-self number) refl

          whole_ops : (tid : Tid) (label : List ℕ) (member : Member) (number : ℕ) (issuer : ServerNo) (op : Op) → parcel.message ≡ messages.Request tid label member number issuer op
              → waiting_ops (way_between m n number) (waiting_at (world.hosts n).node tid member.server) ++ ops_of tid member.server number (on_its_way world.channels m n)
              ≡ (waiting_ops (way_between m n number) (waiting_at (world.hosts n).node tid member.server) ++ op ∷ []) ++ ops_of tid member.server number (first_way parcel next).0
          whole_ops tid label member number issuer op is = ap (λ (ps : List Parcel). waiting_ops (way_between m n number) (waiting_at (world.hosts n).node tid member.server) ++ ops_of tid member.server number ps) (first_way parcel next).1
              ∙ (ap (λ (ds : List Op). waiting_ops (way_between m n number) (waiting_at (world.hosts n).node tid member.server) ++ ds) (first_op tid label member number issuer op is (first_way parcel next).0)
              ∙ sym (append_assoc (waiting_ops (way_between m n number) (waiting_at (world.hosts n).node tid member.server)) (op ∷ []) (ops_of tid member.server number (first_way parcel next).0)))
      behind_of messages.Hello is = tt
      behind_of (messages.Answered tid member number reply) is = tt
      behind_of (messages.AskVote tid) is = tt
      behind_of (messages.Covered tid up_to) is = tt
      behind_of (messages.VotedYes tid up_to told) is = tt
      behind_of (messages.VotedAbort tid cause) is = tt
      behind_of (messages.Tell tid outcome) is = tt
      behind_of (messages.Told tid further) is = tt
      behind_of (messages.Inquire tid) is = tt

-- and a message comes from another node of the run
pub message_between : (book : BookValue) (world : World) (n m : ℕ) → HoldsChannels book world.size world.channels → (parcel : Parcel) → next_parcel world n m ≡ Some parcel → IsBetween world.size m n
message_between book world n m h parcel next = its.between
  where
    its : IsParcel book world.size m n parcel
    its = every_at (IsParcel book world.size m n) (world.channels.posted m n (known_of world n m) (inc_of world n)) (length (world.channels.handed m n (known_of world n m) (inc_of world n))) parcel (h.posted m n (known_of world n m) (inc_of world n)) next
