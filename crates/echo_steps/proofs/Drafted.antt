-- The message of a draft, part by part.
use Rattle.std.{proofs.Common.{◌≡◌, ℕ, List, [], ◌∷◌, ◌++◌, codes, ap, ◌∙◌, append-nil, append_assoc, None, arith}, specs.List.{All, flat_map}}
use Rattle.std.proofs.lemmas.{Grind.flat_map-append, List.Elements.All-weaker, List.Elements.recursion_from_All}
use Rattle.echo_addr.specs.declared.address.NetNode.{NetNode}
use Rattle.echo_text.{specs.{Echo.{IsLine, ended}, Ids.id_of, Lines.{lines, msgid_word}}, proofs.{EndedLines.{PutTogether, whole_text}, TextLines.IsPiece}}
use Rattle.echo_links.specs.Links.{LinkFile, upper}
use Rattle.echo_filed.{specs.Filed.id_line, proofs.LinesOfIds.line_piece}
use Rattle.model_steps.specs.{declared.draft.Draft.Draft, declared.stamp.Stamp.Stamp, Posting.origin_line, Posting.posted, Posting.posted_lines, Posting.reply_lines, Stamps.date_of}

pub posted_is : (file : LinkFile) (tag : List ℕ) (draft : Draft) (serial : ℕ) (stamp : Stamp) (date to_name from_name subject raised : List ℕ) (kept : List (List ℕ)) (seen path : List NetNode)
    → date ≡ date_of stamp → to_name ≡ draft.to_name → from_name ≡ draft.from_name → subject ≡ draft.subject → raised ≡ upper tag
    → kept ≡ posted_lines file draft serial → seen ≡ [] → path ≡ []
    → record { sender = None; date = date; to_name = to_name; from_name = from_name; subject = subject; echo = record { tag = raised; kept = kept; seen = seen; path = path } }
    ≡ posted file tag draft serial stamp
unfolding posted
posted_is file tag draft serial stamp date to_name from_name subject raised kept seen path d t f j r k s p =
    λ i. record { sender = None; date = d i; to_name = t i; from_name = f i; subject = j i; echo = record { tag = r i; kept = k i; seen = s i; path = p i } }

regrouped : (a r b t o : List ℕ) → (((a ++ r) ++ b) ++ t) ++ o ≡ a ++ (r ++ (b ++ (t ++ o)))
regrouped a r b t o = append_assoc ((a ++ r) ++ b) t o ∙ append_assoc (a ++ r) b (t ++ o) ∙ append_assoc a r (b ++ (t ++ o))

text_is : (id tear origin : List ℕ) (reply body : List (List ℕ)) (none first second third fourth all : List ℕ) → none ≡ [] → first ≡ none ++ ended id
    → second ≡ first ++ flat_map ended reply → third ≡ second ++ flat_map ended body → fourth ≡ third ++ ended tear → all ≡ fourth ++ ended origin
    → all ≡ flat_map ended (id ∷ (reply ++ (body ++ tear ∷ (origin ∷ []))))
text_is id tear origin reply body none first second third fourth all e0 e1 e2 e3 e4 e5 = grind (arith, regrouped, flat_map-append, append-nil)

pub posted_text : (file : LinkFile) (draft : Draft) (serial : ℕ) (id reply body none first second third fourth all : List ℕ) → id ≡ id_of file.system serial
    → reply ≡ draft.reply → body ≡ draft.body → none ≡ [] → first ≡ none ++ ended (id_line msgid_word id) → second ≡ first ++ flat_map ended (reply_lines reply)
    → third ≡ second ++ flat_map ended (lines body) → fourth ≡ third ++ ended (codes "--- echonet") → all ≡ fourth ++ ended (origin_line file)
    → All IsLine (posted_lines file draft serial) → PutTogether all (posted_lines file draft serial)
unfolding posted_lines
posted_text file draft serial id reply body none first second third fourth all i r b e0 e1 e2 e3 e4 e5 are =
    let same : id_line msgid_word id ∷ (reply_lines reply ++ (lines body ++ codes "--- echonet" ∷ (origin_line file ∷ []))) ≡ posted_lines file draft serial =
    λ k. id_line msgid_word (i k) ∷ (reply_lines (r k) ++ (lines (b k) ++ codes "--- echonet" ∷ (origin_line file ∷ [])))
    in
    whole_text all (posted_lines file draft serial)
    (text_is (id_line msgid_word id) (codes "--- echonet") (origin_line file) (reply_lines reply) (lines body) none first second third fourth all e0 e1 e2 e3 e4 e5
    ∙ ap (flat_map ended) same)
    (recursion_from_All IsPiece (posted_lines file draft serial) (All-weaker IsLine IsPiece line_piece (posted_lines file draft serial) are))
