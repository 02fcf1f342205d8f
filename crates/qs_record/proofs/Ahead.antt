-- Each value is found where a front of what is left spells it; so fronts of one list that spell two
-- values spell one, and the reading function finds no other.
use Rattle.std.proofs.Common.{◌≡◌, ◌+◌, ◌≤◌, ℕ, List, [], ◌∷◌, ◌++◌, length, map, true, nat_lt, cond, Ok, Err, subst, refl, ap, ◌∙◌, sym, append_assoc, append-nil}
use Rattle.std.proofs.lemmas.List.Elements.{recursion_from_All}
use Rattle.std.specs.List.{AllByRecursion}
use Rattle.std.specs.Int.{w8, w32}
use Rattle.qs_base.specs.declared.identifiers.Member.{Member}
use Rattle.qs_base.specs.declared.identifiers.NodeNo.{NodeNo}
use Rattle.qs_base.specs.declared.identifiers.ServerNo.{ServerNo}
use Rattle.qs_base.specs.declared.identifiers.Tid.{Tid}
use Rattle.qs_codec.specs.declared.fault.CodecFault.TheVariants.{Short}
use Rattle.qs_codec.specs.Grammar.{Field, Byte, Word, Number, Text, Spells}
use Rattle.qs_codec.specs.Reading.{left_of, integer_at, number_at, text_at}
use Rattle.qs_ops.specs.declared.operation.Op.{Op}
use Rattle.qs_ops.specs.declared.operation.Op.TheVariants.{Put, Append, Del, Get, Listing, Note, Notes, Bind, Find, Timer, Left, Window, Title, Keep, Fetch, Lend, Extra}
use Rattle.qs_ops.specs.Spelled.{IsSpelled, IsName, IsOpText, IsChange, is_change}
use Rattle.qs_record.specs.declared.record.Record.{Record}
use Rattle.qs_record.specs.declared.record.Record.TheVariants.{Prepare, Commit, Aborted, End}
use Rattle.qs_record.specs.Grammar.{Joined, SpellsAll, is_node, is_server, is_rising, SpellsTid, SpellsMember, SpellsNodes, node_field, op_fields, SpellsOp, SpellsOps, SpellsChanges, SpellsRecord}
use Rattle.qs_record.specs.Reading.{then_at, byte_where, tid_at, member_at, is_node_from, rising_at, nodes_at, one_text_at, name_and_text_at, two_texts_at, timer_at, lend_at, extra_at, op_behind, op_at, is_change_tag, change_at, changes_behind, changes_at, prepare_at, commit_at, aborted_at, end_at, record_behind, record_at}
use Rattle.qs_record.proofs.Found.{IsFoundBy, byte_found, word_found, number_found, text_found, where_found, last_found, joined_found, found_then, counted_found}
use Rattle.qs_record.proofs.Lengths.{nodes_enough, ops_enough}
use Rattle.qs_record.proofs.Nodes.{rising_split}

-- ---- identifiers and members

tid_read : (tid : Tid) → is_node tid.home.0 ≡ true → IsFoundBy tid_at (SpellsAll (Byte tid.home.0 ∷ Number tid.inc ∷ Word tid.seq ∷ [])) tid
unfolding tid_at
tid_read tid home =
    joined_found (byte_where is_node)
    (λ r home behind. then_at (number_at behind) (λ inc behind_inc. then_at (integer_at w32 behind_inc) (λ seq after. Ok (record { home = record { 0 = home }; inc = inc; seq = seq }, after))))
    (Spells (Byte tid.home.0)) (SpellsAll (Number tid.inc ∷ Word tid.seq ∷ [])) tid.home.0 tid (where_found is_node tid.home.0 home)
    (λ r. joined_found number_at (λ r inc behind. then_at (integer_at w32 behind) (λ seq after. Ok (record { home = tid.home; inc = inc; seq = seq }, after)))
    (Spells (Number tid.inc)) (SpellsAll (Word tid.seq ∷ [])) tid.inc tid (number_found tid.inc)
    (λ r. joined_found (integer_at w32) (λ r seq after. Ok (record { home = tid.home; inc = tid.inc; seq = seq }, after))
    (Spells (Word tid.seq)) (SpellsAll []) tid.seq tid (word_found tid.seq) (λ r. last_found tid)))

pub tid_found : (tid : Tid) → IsFoundBy tid_at (SpellsTid tid) tid
tid_found tid = record { found = λ r part rest p whole. (tid_read tid p.valid.home).found r part rest p.spelled whole }

member_read : (member : Member) → is_node member.node.0 ≡ true → is_server member.server.0 ≡ true
    → IsFoundBy member_at (SpellsAll (Byte member.node.0 ∷ Byte member.server.0 ∷ [])) member
unfolding member_at
member_read member is_n is_s =
    joined_found (byte_where is_node)
    (λ r node behind. then_at (byte_where is_server behind) (λ server after. Ok (record { node = record { 0 = node }; server = record { 0 = server } }, after)))
    (Spells (Byte member.node.0)) (SpellsAll (Byte member.server.0 ∷ [])) member.node.0 member (where_found is_node member.node.0 is_n)
    (λ r. joined_found (byte_where is_server) (λ r server after. Ok (record { node = member.node; server = record { 0 = server } }, after))
    (Spells (Byte member.server.0)) (SpellsAll []) member.server.0 member (where_found is_server member.server.0 is_s) (λ r. last_found member))

pub member_found : (member : Member) → IsFoundBy member_at (SpellsMember member) member
member_found member = record { found = λ r part rest p whole. (member_read member p.valid.node p.valid.server).found r part rest p.spelled whole }

-- ---- lists of nodes

rising_read : (nodes : List NodeNo) (least : ℕ) → is_rising least nodes ≡ true → IsFoundBy (rising_at (length nodes) least) (SpellsAll (map node_field nodes)) nodes
unfolding rising_at
rising_read [] least is = last_found []
rising_read (n ∷ ns) least is =
    let split = rising_split least n ns is in
    let from : is_node_from least n.0 ≡ true = rw (split.0, split.1) refl in
    joined_found (byte_where (is_node_from least))
    (λ r n behind. then_at (rising_at (length ns) (n + 1) behind) (λ nodes after. Ok (record { 0 = n } ∷ nodes, after)))
    (Spells (node_field n)) (SpellsAll (map node_field ns)) n.0 (n ∷ ns) (where_found (is_node_from least) n.0 from)
    (λ r. found_then (rising_at (length ns) (n.0 + 1)) (SpellsAll (map node_field ns)) ns (λ nodes. n ∷ nodes) (rising_read ns (n.0 + 1) split.2))

pub nodes_found : (nodes : List NodeNo) → IsFoundBy nodes_at (SpellsNodes nodes) nodes
unfolding nodes_at
nodes_found nodes = record {
  found = λ r part rest p whole.
      (joined_found (integer_at w8) (λ r count behind. cond (nat_lt (length (left_of behind)) count) (Err (Short r.at count)) (rising_at count 0 behind))
      (Spells (Byte (length nodes))) (SpellsAll (map node_field nodes)) (length nodes) nodes (byte_found (length nodes))
      (λ r. counted_found (rising_at (length nodes) 0) (SpellsAll (map node_field nodes)) nodes (length nodes) (Short r.at (length nodes))
      (nodes_enough nodes) (rising_read nodes 0 p.valid))).found r part rest p.spelled whole;
}

-- ---- operations

one_read : (make : List ℕ → Op) (max : ℕ) (text : List ℕ) → length text ≤ max → IsFoundBy (one_text_at make max) (SpellsAll (Text text ∷ [])) (make text)
unfolding one_text_at
one_read make max text fits =
    joined_found (text_at max) (λ r text after. Ok (make text, after)) (Spells (Text text)) (SpellsAll []) text (make text) (text_found max text fits) (λ r. last_found (make text))

both_read : (name text : List ℕ) → IsName name → IsOpText text → IsFoundBy name_and_text_at (SpellsAll (Text name ∷ Text text ∷ [])) (name, text)
unfolding name_and_text_at
both_read name text is_name is_text =
    joined_found (text_at 64) (λ r name behind. then_at (text_at 4096 behind) (λ text after. Ok ((name, text), after)))
    (Spells (Text name)) (SpellsAll (Text text ∷ [])) name (name, text) (text_found 64 name is_name.fits)
    (λ r. joined_found (text_at 4096) (λ r text after. Ok ((name, text), after)) (Spells (Text text)) (SpellsAll []) text (name, text) (text_found 4096 text is_text.fits)
    (λ r. last_found (name, text)))

two_read : (make : List ℕ → List ℕ → Op) (name text : List ℕ) → IsName name × IsOpText text → IsFoundBy (two_texts_at make) (SpellsAll (Text name ∷ Text text ∷ [])) (make name text)
unfolding two_texts_at
two_read make name text is =
    found_then name_and_text_at (SpellsAll (Text name ∷ Text text ∷ [])) (name, text) (λ both. make both.0 both.1) (both_read name text is.0 is.1)

timer_read : (name : List ℕ) (ticks : ℕ) → IsName name → IsFoundBy timer_at (SpellsAll (Text name ∷ Word ticks ∷ [])) (Timer name ticks)
unfolding timer_at
timer_read name ticks is =
    joined_found (text_at 64) (λ r name behind. then_at (integer_at w32 behind) (λ ticks after. Ok (Timer name ticks, after)))
    (Spells (Text name)) (SpellsAll (Word ticks ∷ [])) name (Timer name ticks) (text_found 64 name is.fits)
    (λ r. joined_found (integer_at w32) (λ r ticks after. Ok (Timer name ticks, after)) (Spells (Word ticks)) (SpellsAll []) ticks (Timer name ticks) (word_found ticks)
    (λ r. last_found (Timer name ticks)))

lend_read : (client : ℕ) → IsFoundBy lend_at (SpellsAll (Byte client ∷ [])) (Lend (record { 0 = client }))
unfolding lend_at
lend_read client =
    joined_found (integer_at w8) (λ r client after. Ok (Lend (record { 0 = client }), after)) (Spells (Byte client)) (SpellsAll []) client (Lend (record { 0 = client })) (byte_found client)
    (λ r. last_found (Lend (record { 0 = client })))

extra_read : (code : ℕ) (text : List ℕ) → IsOpText text → IsFoundBy extra_at (SpellsAll (Word code ∷ Text text ∷ [])) (Extra code text)
unfolding extra_at
extra_read code text is =
    joined_found (integer_at w32) (λ r code behind. then_at (text_at 4096 behind) (λ text after. Ok (Extra code text, after)))
    (Spells (Word code)) (SpellsAll (Text text ∷ [])) code (Extra code text) (word_found code)
    (λ r. joined_found (text_at 4096) (λ r text after. Ok (Extra code text, after)) (Spells (Text text)) (SpellsAll []) text (Extra code text) (text_found 4096 text is.fits)
    (λ r. last_found (Extra code text)))

-- the tag of an operation, and what is found behind it
record TaggedOp (op : Op) : Type 0 where
  tag : ℕ
  fields : List Field
  whole : op_fields op ≡ Byte tag ∷ fields
  changes : is_change op ≡ is_change_tag tag
  behind : (at : ℕ) → IsFoundBy (op_behind at tag) (SpellsAll fields) op

tagged_op : (op : Op) → IsSpelled op → TaggedOp op
unfolding op_behind
tagged_op (Put name text) is = record { tag = 1; fields = Text name ∷ Text text ∷ []; whole = refl; changes = refl; behind = λ at. two_read Put name text is }
tagged_op (Append name text) is = record { tag = 2; fields = Text name ∷ Text text ∷ []; whole = refl; changes = refl; behind = λ at. two_read Append name text is }
tagged_op (Del name) is = record { tag = 3; fields = Text name ∷ []; whole = refl; changes = refl; behind = λ at. one_read Del 64 name is.fits }
tagged_op (Get name) is = record { tag = 4; fields = Text name ∷ []; whole = refl; changes = refl; behind = λ at. one_read Get 64 name is.fits }
tagged_op Listing is = record { tag = 5; fields = []; whole = refl; changes = refl; behind = λ at. last_found Listing }
tagged_op (Note text) is = record { tag = 6; fields = Text text ∷ []; whole = refl; changes = refl; behind = λ at. one_read Note 4096 text is.fits }
tagged_op Notes is = record { tag = 7; fields = []; whole = refl; changes = refl; behind = λ at. last_found Notes }
tagged_op (Bind name text) is = record { tag = 8; fields = Text name ∷ Text text ∷ []; whole = refl; changes = refl; behind = λ at. two_read Bind name text is }
tagged_op (Find name) is = record { tag = 9; fields = Text name ∷ []; whole = refl; changes = refl; behind = λ at. one_read Find 64 name is.fits }
tagged_op (Timer name ticks) is = record { tag = 10; fields = Text name ∷ Word ticks ∷ []; whole = refl; changes = refl; behind = λ at. timer_read name ticks is }
tagged_op (Left name) is = record { tag = 11; fields = Text name ∷ []; whole = refl; changes = refl; behind = λ at. one_read Left 64 name is.fits }
tagged_op (Window name text) is = record { tag = 12; fields = Text name ∷ Text text ∷ []; whole = refl; changes = refl; behind = λ at. two_read Window name text is }
tagged_op (Title name) is = record { tag = 13; fields = Text name ∷ []; whole = refl; changes = refl; behind = λ at. one_read Title 64 name is.fits }
tagged_op (Keep name text) is = record { tag = 14; fields = Text name ∷ Text text ∷ []; whole = refl; changes = refl; behind = λ at. two_read Keep name text is }
tagged_op (Fetch name) is = record { tag = 15; fields = Text name ∷ []; whole = refl; changes = refl; behind = λ at. one_read Fetch 64 name is.fits }
tagged_op (Lend client) is = record { tag = 16; fields = Byte client.0 ∷ []; whole = refl; changes = refl; behind = λ at. lend_read client.0 }
tagged_op (Extra code text) is = record { tag = 17; fields = Word code ∷ Text text ∷ []; whole = refl; changes = refl; behind = λ at. extra_read code text is }

-- its fields begin with the tag
as_tagged : (op : Op) (t : TaggedOp op) (part : List ℕ) → SpellsAll (op_fields op) part → Joined (Spells (Byte t.tag)) (SpellsAll t.fields) part
as_tagged op t part p = subst (λ (fs : List Field). SpellsAll fs part) t.whole p

pub op_found : (op : Op) → IsFoundBy op_at (SpellsOp op) op
unfolding op_at
op_found op = record {
  found = λ r part rest p whole.
      let t : TaggedOp op = tagged_op op p.valid in
      (joined_found (integer_at w8) (λ r tag behind. op_behind r.at tag behind) (Spells (Byte t.tag)) (SpellsAll t.fields) t.tag op (byte_found t.tag) (λ r. t.behind r.at)).found
      r part rest (as_tagged op t part p.spelled) whole;
}

pub change_found : (op : Op) → IsChange op → IsFoundBy change_at (SpellsOp op) op
unfolding change_at
change_found op is = record {
  found = λ r part rest p whole.
      let t : TaggedOp op = tagged_op op p.valid in
      (joined_found (byte_where is_change_tag) (λ r tag behind. op_behind r.at tag behind) (Spells (Byte t.tag)) (SpellsAll t.fields) t.tag op
      (where_found is_change_tag t.tag (sym t.changes ∙ is.changes)) (λ r. t.behind r.at)).found
      r part rest (as_tagged op t part p.spelled) whole;
}

changes_read : (ops : List Op) → AllByRecursion IsChange ops → IsFoundBy (changes_behind (length ops)) (SpellsOps ops) ops
unfolding changes_behind
changes_read [] each = last_found []
changes_read (op ∷ ops) each =
    joined_found change_at (λ r op behind. then_at (changes_behind (length ops) behind) (λ ops after. Ok (op ∷ ops, after)))
    (SpellsOp op) (SpellsOps ops) op (op ∷ ops) (change_found op each.0)
    (λ r. found_then (changes_behind (length ops)) (SpellsOps ops) ops (λ ops. op ∷ ops) (changes_read ops each.1))

pub changes_found : (changes : List Op) → IsFoundBy changes_at (SpellsChanges changes) changes
unfolding changes_at
changes_found changes = record {
  found = λ r part rest p whole.
      (joined_found (integer_at w32) (λ r count behind. cond (nat_lt (length (left_of behind)) count) (Err (Short r.at count)) (changes_behind count behind))
      (Spells (Word (length changes))) (SpellsOps changes) (length changes) changes (word_found (length changes))
      (λ r. counted_found (changes_behind (length changes)) (SpellsOps changes) changes (length changes) (Short r.at (length changes))
      (ops_enough changes) (changes_read changes (recursion_from_All IsChange changes p.valid.each)))).found r part rest p.spelled whole;
}

-- ---- records

-- two fields, and what is behind them
regroup_two : (f g : Field) (Q : List ℕ → Type 0) (part : List ℕ) → Joined (SpellsAll (f ∷ g ∷ [])) Q part → Joined (Spells f) (Joined (Spells g) Q) part
regroup_two f g Q part j =
    let second = j.first.second in
    let last : second.front ++ second.back ≡ second.front = ap (λ (xs : List ℕ). second.front ++ xs) second.second ∙ append-nil second.front in
    record {
      front = j.first.front;
      back = second.front ++ j.back;
      whole = j.whole ∙ ap (λ (xs : List ℕ). xs ++ j.back) (j.first.whole ∙ ap (λ (xs : List ℕ). j.first.front ++ xs) (second.whole ∙ last))
          ∙ append_assoc j.first.front second.front j.back;
      first = j.first.first;
      second = record { front = second.front; back = j.back; whole = refl; first = second.first; second = j.second };
    }

share_read : (tid : Tid) (server : ServerNo) (covers : ℕ) (changes : List Op) → is_server server.0 ≡ true
    → IsFoundBy (λ r. then_at (byte_where is_server r) (λ server behind_server. then_at (integer_at w32 behind_server) (λ covers behind_covers.
    then_at (changes_at behind_covers) (λ changes after. Ok (Prepare tid (record { 0 = server }) covers changes, after)))))
    (Joined (SpellsAll (Byte server.0 ∷ Word covers ∷ [])) (SpellsChanges changes)) (Prepare tid server covers changes)
share_read tid server covers changes is =
    let made : Record = Prepare tid server covers changes in
    let all = joined_found (byte_where is_server)
    (λ r server behind. then_at (integer_at w32 behind) (λ covers behind_covers. then_at (changes_at behind_covers) (λ changes after. Ok (Prepare tid (record { 0 = server }) covers changes, after))))
    (Spells (Byte server.0)) (Joined (Spells (Word covers)) (SpellsChanges changes)) server.0 made (where_found is_server server.0 is)
    (λ r. joined_found (integer_at w32) (λ r covers behind. then_at (changes_at behind) (λ changes after. Ok (Prepare tid server covers changes, after)))
    (Spells (Word covers)) (SpellsChanges changes) covers made (word_found covers)
    (λ r. found_then changes_at (SpellsChanges changes) changes (λ changes. Prepare tid server covers changes) (changes_found changes))) in
    record { found = λ r part rest p whole. all.found r part rest (regroup_two (Byte server.0) (Word covers) (SpellsChanges changes) part p) whole }

prepare_read : (tid : Tid) (server : ServerNo) (covers : ℕ) (changes : List Op) → is_server server.0 ≡ true
    → IsFoundBy prepare_at (Joined (SpellsTid tid) (Joined (SpellsAll (Byte server.0 ∷ Word covers ∷ [])) (SpellsChanges changes))) (Prepare tid server covers changes)
unfolding prepare_at
prepare_read tid server covers changes is =
    joined_found tid_at
    (λ r tid behind. then_at (byte_where is_server behind) (λ server behind_server. then_at (integer_at w32 behind_server) (λ covers behind_covers.
    then_at (changes_at behind_covers) (λ changes after. Ok (Prepare tid (record { 0 = server }) covers changes, after)))))
    (SpellsTid tid) (Joined (SpellsAll (Byte server.0 ∷ Word covers ∷ [])) (SpellsChanges changes)) tid (Prepare tid server covers changes) (tid_found tid)
    (λ r. share_read tid server covers changes is)

commit_read : (tid : Tid) (told : List NodeNo) → IsFoundBy commit_at (Joined (SpellsTid tid) (SpellsNodes told)) (Commit tid told)
unfolding commit_at
commit_read tid told =
    joined_found tid_at (λ r tid behind. then_at (nodes_at behind) (λ told after. Ok (Commit tid told, after)))
    (SpellsTid tid) (SpellsNodes told) tid (Commit tid told) (tid_found tid)
    (λ r. found_then nodes_at (SpellsNodes told) told (λ told. Commit tid told) (nodes_found told))

aborted_read : (tid : Tid) → IsFoundBy aborted_at (SpellsTid tid) (Aborted tid)
unfolding aborted_at
aborted_read tid = found_then tid_at (SpellsTid tid) tid (λ tid. Aborted tid) (tid_found tid)

end_read : (tid : Tid) → IsFoundBy end_at (SpellsTid tid) (End tid)
unfolding end_at
end_read tid = found_then tid_at (SpellsTid tid) tid (λ tid. End tid) (tid_found tid)

tagged_read : (tag : ℕ) (Q : List ℕ → Type 0) (rec : Record) → ((at : ℕ) → IsFoundBy (record_behind at tag) Q rec) → IsFoundBy record_at (Joined (Spells (Byte tag)) Q) rec
unfolding record_at
tagged_read tag Q rec behind =
    joined_found (integer_at w8) (λ r tag behind. record_behind r.at tag behind) (Spells (Byte tag)) Q tag rec (byte_found tag) (λ r. behind r.at)

pub record_found : (rec : Record) → IsFoundBy record_at (SpellsRecord rec) rec
unfolding record_behind
record_found (Prepare tid server covers changes) = record {
  found = λ r part rest p whole.
      (tagged_read 1 (Joined (SpellsTid tid) (Joined (SpellsAll (Byte server.0 ∷ Word covers ∷ [])) (SpellsChanges changes))) (Prepare tid server covers changes)
      (λ at. prepare_read tid server covers changes p.0)).found r part rest p.1 whole;
}
record_found (Commit tid told) = tagged_read 2 (Joined (SpellsTid tid) (SpellsNodes told)) (Commit tid told) (λ at. commit_read tid told)
record_found (Aborted tid) = tagged_read 3 (SpellsTid tid) (Aborted tid) (λ at. aborted_read tid)
record_found (End tid) = tagged_read 4 (SpellsTid tid) (End tid) (λ at. end_read tid)
