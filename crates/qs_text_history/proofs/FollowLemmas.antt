-- A line may follow exactly where it is read.
use Rattle.std.proofs.Common.{◌≡◌, ◌<◌, ℕ, ◌^◌, ◌&&◌, Bool, true, false, cond, List, [], ◌∷◌, ◌++◌, Option, Some, None, refl, sym, ◌∙◌, ap, subst, arith}
use Rattle.std.specs.Prelude.{codes, decimal, nat_lt}
use Rattle.std.specs.List.{list_all}
use Rattle.std.proofs.lemmas.Bool.{lt-ltb, ltb-true}
use Rattle.qs_base.specs.Order.{same_bytes}
use Rattle.qs_base.proofs.Same.{same_bytes-true}
use Rattle.qs_base.specs.declared.identifiers.Tid.{Tid}
use Rattle.qs_book_journal.specs.declared.entry.Entry.{Entry}
use Rattle.qs_text_script.specs.Answers.{tid_text, list_text}
use Rattle.qs_text_history.specs.Inner.Acts.{act_of, entry_of}
use Rattle.qs_text_history.specs.Inner.Reader.{taken, read_line}
use Rattle.qs_text_history.specs.Reading.{Reading, may_follow, read_after, IsNamedAct, IsNamed, Follows, Reads}
use Rattle.qs_text_history.specs.Said.{IsSaid, said_line}
use Rattle.qs_text_history.specs.Inner.Said.{within, nodes_of, are_titles, node_with, node_of, file_of, note_of, item_of, commit_of, opening_of, said_by, said_of}
use Rattle.qs_text_history.specs.Spelled.{IsTid, IsEntry, Each}
use Rattle.qs_text_history.specs.Words.{is_word}
use Rattle.qs_text_history.specs.Inner.Words.{wide_of, number_below, tid_of, words_of}
use Rattle.qs_text_history.specs.declared.said.Said.{Said}
use Rattle.qs_text_history.specs.declared.said.Said.TheVariants.{Nodes, Node, File, Note, Item, Commit, Line}
use Rattle.qs_text_history.proofs.ActLemmas.{act_read, act_good}
use Rattle.qs_text_history.proofs.ActBackLemmas.{act_back}
use Rattle.qs_text_history.proofs.HolderLemmas.{Names, names_self, act_held, act_word, holder_tid, act_label}
use Rattle.qs_text_history.proofs.IdentifierLemmas.{wide_read, wide_back, tid_read, tid_back, tid_word}
use Rattle.qs_text_history.proofs.LiftLemmas.{lifted1, lifted3}
use Rattle.qs_text_history.proofs.LineLemmas.{words_read, words_back}
use Rattle.qs_text_history.proofs.MarkLemmas.{both, decimal_word}
use Rattle.qs_text_history.proofs.NumberLemmas.{number_spelled, number_read}
use Rattle.qs_text_history.proofs.OperationLemmas.{led}
use Rattle.qs_text_history.proofs.TextLemmas.{shown_in, act_tokens, line_is}

-- ---- numbers within limits

within_is : (limit n : ℕ) → 0 < n → n < limit → within limit (Some n) ≡ Some n
within_is limit n some small = rw (lt-ltb 0 n some, lt-ltb n limit small) refl

within_back : (limit n : ℕ) (number : Option ℕ) → within limit number ≡ Some n → (number ≡ Some n) × ((0 < n) × (n < limit))
within_back limit n None e = cc
within_back limit n (Some value) e = by (nat_lt 0 value) (nat_lt value limit) refl refl e
  where
    by : (a b : Bool) → nat_lt 0 value ≡ a → nat_lt value limit ≡ b → cond (a && b) (Some value) None ≡ Some n → (Some value ≡ Some n) × ((0 < n) × (n < limit))
    by true true some small h = let same : value ≡ n = cc in (h, (subst (λ v. 0 < v) same (ltb-true 0 value some), subst (λ v. v < limit) same (ltb-true value limit small)))
    by true false some small h = cc
    by false b some small h = cc

-- ---- what is printed is read

by_words : (holder : List ℕ → Option Tid) (line first : List ℕ) (rest : List (List ℕ)) (said : Said) → line ≡ first ++ list_text rest → list_all is_word (first ∷ rest) ≡ true
    → said_of holder (first ∷ rest) ≡ Some said → said_of holder (words_of line) ≡ Some said
by_words holder line first rest said is good reads = ap (said_of holder) (ap words_of is ∙ words_read first rest good) ∙ reads

nodes_read : (holder : List ℕ → Option Tid) (count : ℕ) → 0 < count → count < 17 → said_of holder (codes "nodes" ∷ decimal count ∷ []) ≡ Some (Nodes count)
unfolding said_of wide_of opening_of
nodes_read holder count some small = rw (number_read 256 count (omega arith) (omega arith), within_is 17 count some small) refl

not_number : wide_of (codes "node") ≡ None
unfolding wide_of
not_number = refl

node_read : (holder : List ℕ → Option Tid) (number inc format : ℕ) → number < 256 → inc < 2 ^ 64 → 0 < format → format < 3
    → said_of holder (codes "node" ∷ decimal number ∷ codes "inc" ∷ decimal inc ∷ codes "format" ∷ decimal format ∷ []) ≡ Some (Node number inc format)
unfolding said_of opening_of
node_read holder number inc format n i some small =
    let word : wide_of (codes "node") ≡ None = not_number in
    rw (word, number_read 256 number (omega arith) n, wide_read inc i, number_read (2 ^ 32) format (omega arith) (omega arith), within_is 3 format some small) refl

file_read : (holder : List ℕ → Option Tid) (name content : List ℕ) → said_of holder (codes "file" ∷ name ∷ content ∷ []) ≡ Some (File name content)
unfolding said_of wide_of opening_of
file_read holder name content = refl

note_read : (holder : List ℕ → Option Tid) (text : List ℕ) → said_of holder (codes "note" ∷ text ∷ []) ≡ Some (Note text)
unfolding said_of wide_of opening_of
note_read holder text = refl

item_read : (holder : List ℕ → Option Tid) (text : List ℕ) → said_of holder (codes "item" ∷ text ∷ []) ≡ Some (Item text)
unfolding said_of wide_of opening_of
item_read holder text = refl

commit_read : (holder : List ℕ → Option Tid) (tid : Tid) → IsTid tid → said_of holder (codes "commit" ∷ tid_text tid ∷ []) ≡ Some (Commit tid)
unfolding said_of wide_of opening_of
commit_read holder tid is = rw (tid_read tid is) refl

entry_read : (holder : List ℕ → Option Tid) (entries : List Entry) → Names holder entries → (label : Option (List ℕ)) (entry : Entry) → IsEntry entry → IsNamedAct entries label entry.act
    → said_of holder (decimal entry.stamp ∷ decimal entry.node.0 ∷ act_tokens (shown_in label entry.act) entry.act) ≡ Some (Line entry)
unfolding said_of entry_of
entry_read holder entries names label entry is named =
    rw (
      wide_read entry.stamp is.stamp,
      number_read 256 entry.node.0 (omega arith) is.node,
      act_read holder (shown_in label entry.act) entry.act is.act (act_held holder entries names label entry.act is.act named),
      wide_read entry.stamp is.stamp,
    ) refl

said_read : (holder : List ℕ → Option Tid) (entries : List Entry) → Names holder entries → (label : Option (List ℕ)) (said : Said) → IsSaid said → IsNamed entries label said
    → said_of holder (words_of (said_line label said)) ≡ Some said
said_read holder entries names label (Nodes count) is named =
    by_words holder _ (codes "nodes") (decimal count ∷ []) (Nodes count) refl (rw (decimal_word count (omega (arith, is.1))) refl) (nodes_read holder count is.0 is.1)
said_read holder entries names label (Node number inc format) is named =
    by_words holder _ (codes "node") (decimal number ∷ codes "inc" ∷ decimal inc ∷ codes "format" ∷ decimal format ∷ []) (Node number inc format) refl
    (rw (decimal_word number (omega (arith, is.0)), decimal_word inc is.1.0, decimal_word format (omega (arith, is.1.1.1))) refl) (node_read holder number inc format is.0 is.1.0 is.1.1.0 is.1.1.1)
said_read holder entries names label (File name content) is named = by_words holder _ (codes "file") (name ∷ content ∷ []) (File name content) refl (rw (is.0, is.1) refl) (file_read holder name content)
said_read holder entries names label (Note text) is named = by_words holder _ (codes "note") (text ∷ []) (Note text) refl (rw is refl) (note_read holder text)
said_read holder entries names label (Item text) is named = by_words holder _ (codes "item") (text ∷ []) (Item text) refl (rw is refl) (item_read holder text)
said_read holder entries names label (Commit tid) is named = by_words holder _ (codes "commit") (tid_text tid ∷ []) (Commit tid) refl (rw (tid_word tid is) refl) (commit_read holder tid is)
said_read holder entries names label (Line entry) is named =
    by_words holder _ (decimal entry.stamp) (decimal entry.node.0 ∷ act_tokens (shown_in label entry.act) entry.act) (Line entry) (line_is label entry)
    (rw (decimal_word entry.stamp is.stamp, decimal_word entry.node.0 (omega (arith, is.node))) (act_good (shown_in label entry.act) entry.act (act_word entries label entry.act is.act named) is.act))
    (entry_read holder entries names label entry is named)

-- what follows is read
pub follows_read : (holder : List ℕ → Option Tid) (reading : Reading) → Names holder reading.entries → (line : List ℕ) (next : Reading) → Follows reading line next → read_line holder reading line ≡ Some next
follows_read holder reading names line next f =
    let reads : said_of holder (words_of line) ≡ Some f.said = ap (λ l. said_of holder (words_of l)) f.is ∙ said_read holder reading.entries names f.label f.said f.spelled f.named in
    ap (taken reading) reads ∙ (rw (f.may) (ap Some f.reads))

-- ---- what is read follows

pub record SaidTold (entries : List Entry) (line : List ℕ) (said : Said) : Type 0 where
  pub label : Option (List ℕ)
  pub spelled : IsSaid said
  pub named : IsNamed entries label said
  pub is : line ≡ said_line label said

told : (entries : List Entry) (word text : List ℕ) (rest tokens : List (List ℕ)) (said : Said) → IsSaid said → IsNamed entries None said → said_line None said ≡ text ++ list_text tokens
    → same_bytes word text ≡ true → rest ≡ tokens → SaidTold entries (word ++ list_text rest) said
told entries word text rest tokens said is named line t p =
    let w : word ≡ text = same_bytes-true word text t in
    record { label = None; spelled = is; named = named; is = rw (w, p) (sym line) }

nodes_back : (entries : List Entry) (word : List ℕ) (rest : List (List ℕ)) (said : Said) → same_bytes word (codes "nodes") ≡ true → nodes_of rest ≡ Some said → SaidTold entries (word ++ list_text rest) said
nodes_back entries word [] said t e = cc
nodes_back entries word (a ∷ []) said t e =
    let l = lifted1 Nodes (within 17 (number_below 256 a)) said e in
    let w = within_back 17 l.0 (number_below 256 a) l.1.0 in
    let n = number_spelled 256 a l.0 w.0 in
    subst (SaidTold entries (word ++ list_text (a ∷ []))) l.1.1 (told entries word (codes "nodes") (a ∷ []) (decimal l.0 ∷ []) (Nodes l.0) w.1 tt refl t (ap (λ x. x ∷ []) n.1))
nodes_back entries word (a ∷ b ∷ more) said t e = cc

five : (a b c d e : List ℕ) (v w x y z : List ℕ) → a ≡ v → b ≡ w → c ≡ x → d ≡ y → e ≡ z → (a ∷ b ∷ c ∷ d ∷ e ∷ []) ≡ v ∷ w ∷ x ∷ y ∷ z ∷ []
five a b c d e v w x y z p q r s t = rw (p, q, r, s, t) refl

node_with_back : (entries : List Entry) (word a b c d f : List ℕ) (said : Said) → same_bytes word (codes "node") ≡ true → are_titles b d ≡ true
    → node_with (number_below 256 a) (wide_of c) (within 3 (number_below (2 ^ 32) f)) ≡ Some said → SaidTold entries (word ++ list_text (a ∷ b ∷ c ∷ d ∷ f ∷ [])) said
node_with_back entries word a b c d f said t u e =
    let l = lifted3 Node (number_below 256 a) (wide_of c) (within 3 (number_below (2 ^ 32) f)) said e in
    let titles = both (same_bytes b (codes "inc")) (same_bytes d (codes "format")) u in
    let n = number_spelled 256 a l.0 l.1.1.1.0 in
    let i = wide_back c l.1.0 l.1.1.1.1.0 in
    let w = within_back 3 l.1.1.0 (number_below (2 ^ 32) f) l.1.1.1.1.1.0 in
    let m = number_spelled (2 ^ 32) f l.1.1.0 w.0 in
    subst (SaidTold entries (word ++ list_text (a ∷ b ∷ c ∷ d ∷ f ∷ []))) l.1.1.1.1.1.1
    (told entries word (codes "node") (a ∷ b ∷ c ∷ d ∷ f ∷ []) (decimal l.0 ∷ codes "inc" ∷ decimal l.1.0 ∷ codes "format" ∷ decimal l.1.1.0 ∷ []) (Node l.0 l.1.0 l.1.1.0)
    (n.0, (i.0, w.1)) tt refl t
    (five a b c d f (decimal l.0) (codes "inc") (decimal l.1.0) (codes "format") (decimal l.1.1.0) n.1 (same_bytes-true b (codes "inc") titles.0) i.1 (same_bytes-true d (codes "format") titles.1) m.1))

node_back : (entries : List Entry) (word : List ℕ) (rest : List (List ℕ)) (said : Said) → same_bytes word (codes "node") ≡ true → node_of rest ≡ Some said → SaidTold entries (word ++ list_text rest) said
node_back entries word [] said t e = cc
node_back entries word (a ∷ []) said t e = cc
node_back entries word (a ∷ b ∷ []) said t e = cc
node_back entries word (a ∷ b ∷ c ∷ []) said t e = cc
node_back entries word (a ∷ b ∷ c ∷ d ∷ []) said t e = cc
node_back entries word (a ∷ b ∷ c ∷ d ∷ f ∷ []) said t e =
    led (SaidTold entries (word ++ list_text (a ∷ b ∷ c ∷ d ∷ f ∷ []))) (are_titles b d) (node_with (number_below 256 a) (wide_of c) (within 3 (number_below (2 ^ 32) f))) None said
    (node_with_back entries word a b c d f said t) (λ none. cc) e
node_back entries word (a ∷ b ∷ c ∷ d ∷ f ∷ g ∷ more) said t e = cc

file_back : (entries : List Entry) (word : List ℕ) (rest : List (List ℕ)) (said : Said) → list_all is_word rest ≡ true → same_bytes word (codes "file") ≡ true → file_of rest ≡ Some said → SaidTold entries (word ++ list_text rest) said
file_back entries word [] said good t e = cc
file_back entries word (a ∷ []) said good t e = cc
file_back entries word (a ∷ b ∷ []) said good t e =
    let g = both (is_word a) (list_all is_word (b ∷ [])) good in
    let h = both (is_word b) true g.1 in
    let same : File a b ≡ said = cc in
    subst (SaidTold entries (word ++ list_text (a ∷ b ∷ []))) same (told entries word (codes "file") (a ∷ b ∷ []) (a ∷ b ∷ []) (File a b) (g.0, h.0) tt refl t refl)
file_back entries word (a ∷ b ∷ c ∷ more) said good t e = cc

note_back : (entries : List Entry) (word : List ℕ) (rest : List (List ℕ)) (said : Said) → list_all is_word rest ≡ true → same_bytes word (codes "note") ≡ true → note_of rest ≡ Some said → SaidTold entries (word ++ list_text rest) said
note_back entries word [] said good t e = cc
note_back entries word (a ∷ []) said good t e =
    let g = both (is_word a) true good in
    let same : Note a ≡ said = cc in
    subst (SaidTold entries (word ++ list_text (a ∷ []))) same (told entries word (codes "note") (a ∷ []) (a ∷ []) (Note a) g.0 tt refl t refl)
note_back entries word (a ∷ b ∷ more) said good t e = cc

item_back : (entries : List Entry) (word : List ℕ) (rest : List (List ℕ)) (said : Said) → list_all is_word rest ≡ true → same_bytes word (codes "item") ≡ true → item_of rest ≡ Some said → SaidTold entries (word ++ list_text rest) said
item_back entries word [] said good t e = cc
item_back entries word (a ∷ []) said good t e =
    let g = both (is_word a) true good in
    let same : Item a ≡ said = cc in
    subst (SaidTold entries (word ++ list_text (a ∷ []))) same (told entries word (codes "item") (a ∷ []) (a ∷ []) (Item a) g.0 tt refl t refl)
item_back entries word (a ∷ b ∷ more) said good t e = cc

commit_back : (entries : List Entry) (word : List ℕ) (rest : List (List ℕ)) (said : Said) → same_bytes word (codes "commit") ≡ true → commit_of rest ≡ Some said → SaidTold entries (word ++ list_text rest) said
commit_back entries word [] said t e = cc
commit_back entries word (a ∷ []) said t e =
    let l = lifted1 Commit (tid_of a) said e in
    let n = tid_back a l.0 l.1.0 in
    subst (SaidTold entries (word ++ list_text (a ∷ []))) l.1.1 (told entries word (codes "commit") (a ∷ []) (tid_text l.0 ∷ []) (Commit l.0) n.0 tt refl t (ap (λ x. x ∷ []) n.1))
commit_back entries word (a ∷ b ∷ more) said t e = cc

opening_back : (entries : List Entry) (word : List ℕ) (rest : List (List ℕ)) (said : Said) → list_all is_word rest ≡ true → opening_of word rest ≡ Some said → SaidTold entries (word ++ list_text rest) said
unfolding opening_of
opening_back entries word rest said good e =
    let P = SaidTold entries (word ++ list_text rest) in
    led P _ (nodes_of rest) _ said (nodes_back entries word rest said)
    (led P _ (node_of rest) _ said (node_back entries word rest said)
    (led P _ (file_of rest) _ said (file_back entries word rest said good)
    (led P _ (note_of rest) _ said (note_back entries word rest said good)
    (led P _ (item_of rest) _ said (item_back entries word rest said good)
    (led P _ (commit_of rest) None said (commit_back entries word rest said) (λ none. cc)))))) e

line_text : (a b c d : List ℕ) (xs ys : List (List ℕ)) → a ≡ c → b ≡ d → xs ≡ ys → a ++ list_text (b ∷ xs) ≡ c ++ list_text (d ∷ ys)
line_text a b c d xs ys p q r = rw (p, q, r) refl

entry_back : (holder : List ℕ → Option Tid) (entries : List Entry) → Names holder entries → Each IsEntry entries → (words : List (List ℕ)) (first : List ℕ) (rest : List (List ℕ)) (entry : Entry) → list_all is_word rest ≡ true
    → entry_of holder (first ∷ rest) ≡ Some entry → SaidTold entries (first ++ list_text rest) (Line entry)
unfolding entry_of
entry_back holder entries names each words first [] entry good e = cc
entry_back holder entries names each words first (node ∷ act) entry good e =
    let g = both (is_word node) (list_all is_word act) good in
    let l = lifted3 (λ stamp node act. record { stamp = stamp; node = record { 0 = node }; act = act }) (wide_of first) (number_below 256 node) (act_of holder act) entry e in
    let s = wide_back first l.0 l.1.1.1.0 in
    let n = number_spelled 256 node l.1.0 l.1.1.1.1.0 in
    let a = act_back holder (holder_tid holder entries names each) act l.1.1.0 g.1 l.1.1.1.1.1.0 in
    let b = act_label holder entries names a.name l.1.1.0 a.good a.held in
    let made : Entry = record { stamp = l.0; node = record { 0 = l.1.0 }; act = l.1.1.0 } in
    subst (λ x. SaidTold entries (first ++ list_text (node ∷ act)) (Line x)) l.1.1.1.1.1.1
    (record {
      label = b.label;
      spelled = record { stamp = s.0; node = n.0; act = a.is };
      named = b.named;
      is = line_text first node (decimal l.0) (decimal l.1.0) act (act_tokens (shown_in b.label l.1.1.0) l.1.1.0) s.1 n.1 (a.spelled ∙ b.same) ∙ sym (line_is b.label made);
    })

said_back : (holder : List ℕ → Option Tid) (entries : List Entry) → Names holder entries → Each IsEntry entries → (first : List ℕ) (rest : List (List ℕ)) (said : Said) → list_all is_word rest ≡ true
    → said_of holder (first ∷ rest) ≡ Some said → SaidTold entries (first ++ list_text rest) said
unfolding said_of
said_back holder entries names each first rest said good e = by (wide_of first) e
  where
    by : (stamp : Option ℕ) → said_by holder first rest stamp ≡ Some said → SaidTold entries (first ++ list_text rest) said
    by None h = opening_back entries first rest said good h
    by (Some stamp) h =
        let l = lifted1 Line (entry_of holder (first ∷ rest)) said h in
        subst (SaidTold entries (first ++ list_text rest)) l.1.1 (entry_back holder entries names each (first ∷ rest) first rest l.0 good l.1.0)

-- ---- and what follows

each_more : (entries : List Entry) (entry : Entry) → Each IsEntry entries → IsEntry entry → Each IsEntry (entries ++ entry ∷ [])
each_more [] entry each is = (is, tt)
each_more (first ∷ entries) entry each is = (each.0, each_more entries entry each.1 is)

each_after : (reading : Reading) (said : Said) → IsSaid said → Each IsEntry reading.entries → Each IsEntry (read_after reading said).entries
each_after reading (Nodes count) is each = each
each_after reading (Node number inc format) is each = each
each_after reading (File name content) is each = each
each_after reading (Note text) is each = each
each_after reading (Item text) is each = each
each_after reading (Commit tid) is each = each
each_after reading (Line entry) is each = each_more reading.entries entry each is

pub follows_each : (reading : Reading) (line : List ℕ) (next : Reading) → Follows reading line next → Each IsEntry reading.entries → Each IsEntry next.entries
follows_each reading line next f each = subst (λ r. Each IsEntry r.entries) f.reads (each_after reading f.said f.spelled each)

taken_back : (reading next : Reading) (said : Option Said) → taken reading said ≡ Some next → (s : Said) × ((said ≡ Some s) × ((may_follow reading s ≡ true) × (read_after reading s ≡ next)))
taken_back reading next None e = cc
taken_back reading next (Some said) e = by (may_follow reading said) refl e
  where
    by : (b : Bool) → may_follow reading said ≡ b → cond b (Some (read_after reading said)) None ≡ Some next → (s : Said) × ((Some said ≡ Some s) × ((may_follow reading s ≡ true) × (read_after reading s ≡ next)))
    by true may h = (said, (refl, (may, cc)))
    by false may h = cc

none_said : (holder : List ℕ → Option Tid) (said : Said) → said_of holder [] ≡ Some said → ⊥
unfolding said_of
none_said holder said e = cc

-- what is read follows
pub read_follows : (holder : List ℕ → Option Tid) (reading : Reading) → Names holder reading.entries → Each IsEntry reading.entries → (line : List ℕ) (next : Reading) → read_line holder reading line ≡ Some next → Follows reading line next
read_follows holder reading names each line next e =
    let t = taken_back reading next (said_of holder (words_of line)) e in
    by (words_of line) refl t.0 t.1.0 t.1.1.0 t.1.1.1
  where
    by : (words : List (List ℕ)) → words_of line ≡ words → (said : Said) → said_of holder words ≡ Some said → may_follow reading said ≡ true → read_after reading said ≡ next → Follows reading line next
    by [] is said reads may after = absurd (none_said holder said reads)
    by (first ∷ rest) is said reads may after =
        let w = words_back line first rest is in
        let g = both (is_word first) (list_all is_word rest) w.1 in
        let s = said_back holder reading.entries names each first rest said g.1 reads in
        record { said = said; label = s.label; spelled = s.spelled; named = s.named; is = w.0 ∙ s.is; may = may; reads = after }

-- ---- lines

-- a line is followed in one way
same_next : (reading : Reading) (line : List ℕ) (one other : Reading) → Follows reading line one → Follows reading line other → one ≡ other
same_next reading line one other f g =
    let p : Some one ≡ Some other = sym (follows_read _ reading (names_self reading.entries) line one f) ∙ follows_read _ reading (names_self reading.entries) line other g in
    cc

pub reads_more : (lines : List (List ℕ)) (first reading next : Reading) (line : List ℕ) → Reads first lines reading → Follows reading line next → Reads first (lines ++ line ∷ []) next
reads_more [] first reading next line r f = (next, (subst (λ x. Follows x line next) (sym r) f, refl))
reads_more (one ∷ lines) first reading next line r f = (r.0, (r.1.0, reads_more lines r.0 reading next line r.1.1 f))

-- two readings of lines of which the one goes on with more
pub reads_on : (lines more : List (List ℕ)) (first reading last : Reading) → Reads first lines reading → Reads first (lines ++ more) last → Reads reading more last
reads_on [] more first reading last r s = subst (λ x. Reads x more last) r s
reads_on (line ∷ lines) more first reading last r s =
    let same : r.0 ≡ s.0 = same_next first line r.0 s.0 r.1.0 s.1.0 in
    reads_on lines more s.0 reading last (subst (λ x. Reads x lines reading) same r.1.1) s.1.1
