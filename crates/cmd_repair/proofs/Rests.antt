-- A packet of a repair is that of the model.
use Rattle.std.proofs.Common.{◌≡◌, ℕ, suc, ◌+◌, Bool, true, false, List, [], ◌∷◌, ◌++◌, length, map, Option, Some, None, inl, inr, refl, sym, ap, subst, ◌∙◌}
use Rattle.std.{proofs.lemmas.{Bool.cases_Bool, List.Sorted.list_any-IsPermutation}, specs.{Prelude.{◌&&◌, ◌||◌, not, bytes_eq, filter}, Io.KnownBytes.Appends}}
use Rattle.{std.specs.List.{AllByRecursion, list_any}, base_file.specs.Base.Base, echo_addr.specs.declared.address.Address.Address}
use Rattle.{echo_charset.specs.Escaped.escaped, echo_filed.specs.Filed.Filed, echo_links.specs.Links.LinkFile, echo_packet.specs.Header.AreBytes}
use Rattle.{echo_packet.specs.Packet.packet_bytes, echo_text.specs.Echo.msgid_of, echo_steps.specs.declared.counting.CountedPacket.CountedPacket}
use Rattle.{model_graph.specs.Walk.Among, model_run.proofs.Lists.{filter-no, filter-yes}, model_steps.specs.Resending.is_whole_in}
use Rattle.{model_steps.specs.{Scanning.{copy_to, header_to}, declared.stamp.Stamp.Stamp}, cmd_repair.specs.IdList.{IsIdList, ListsIds, id_line, id_words}}
use Rattle.cmd_repair.specs.{Ids.IsId, Repair.{SendsPacket, is_held, is_named, is_sent}, Rest.{HaveByteIds, SendsRest}}
use Rattle.cmd_repair.{specs.Words.{area_words, end_words, id_word, is_id_line}, proofs.Unescaped.{AreSmall, id-small, same-test, taken}}
use Rattle.model_run.specs.Repair as model

bytes-small : (bs : List ℕ) → AreBytes bs → AreSmall bs
bytes-small [] h = tt
bytes-small (b ∷ bs) h = (h 0, bytes-small bs (λ i. h (suc i)))

same-filter : {X : Type 0} (p q : X → Bool) (xs : List X) → ((x : X) → Among x xs → p x ≡ q x) → filter p xs ≡ filter q xs
same-filter p q [] h = refl
same-filter {X} p q (x ∷ xs) h =
    let rest = same-filter p q xs (λ y i. h y (inr i)) in
    elim (cases_Bool (p x)) [
      | inl is ↦ filter-yes p x xs is ∙ ap (λ (l : List X). x ∷ l) rest ∙ sym (filter-yes q x xs (sym (h x (inl refl)) ∙ is))
      | inr other ↦ filter-no p x xs other ∙ rest ∙ sym (filter-no q x xs (sym (h x (inl refl)) ∙ other))
    ]

-- ---- the words of a list, and its ids

last-words : (ids : List (List ℕ)) (last : List ℕ) → AllByRecursion IsId ids → is_id_line last ≡ false → id_words (map id_line ids ++ last ∷ []) ≡ map escaped ids
last-words [] last all other = ap (map id_word) (filter-no is_id_line last [] other)
last-words (id ∷ ids) last all other =
    let is : is_id_line (id_line id) ≡ true = taken id all.0 in
    ap (map id_word) (filter-yes is_id_line (id_line id) (map id_line ids ++ last ∷ []) is) ∙ ap (λ (l : List (List ℕ)). escaped id ∷ l) (last-words ids last all.1 other)

listed-words : (area : List ℕ) (ids : List (List ℕ)) (n without : ℕ) → AllByRecursion IsId ids → id_words (area_words area ∷ (map id_line ids ++ end_words n without ∷ [])) ≡ map escaped ids
listed-words area ids n without all =
    ap (map id_word) (filter-no is_id_line (area_words area) (map id_line ids ++ end_words n without ∷ []) refl) ∙ last-words ids (end_words n without) all refl

any-form : (id : List ℕ) → AreSmall id → (ids : List (List ℕ)) → AllByRecursion IsId ids → list_any (bytes_eq (escaped id)) (map escaped ids) ≡ list_any (bytes_eq id) ids
any-form id small [] all = refl
any-form id small (x ∷ ids) all =
    ap (λ (b : Bool). b || list_any (bytes_eq (escaped id)) (map escaped ids)) (same-test id x small (id-small x all.0))
    ∙ ap (λ (b : Bool). bytes_eq id x || b) (any-form id small ids all.1)

named-same : (area list : List ℕ) (words ids : List (List ℕ)) → ListsIds area list ids → IsIdList area list words → (o : Option (List ℕ)) → ((id : List ℕ) → o ≡ Some id → AreBytes id) → is_named words o ≡ model.is_named ids o
named-same area list words ids lists is None small = refl
named-same area list words ids lists is (Some id) small =
    let right = lists.right in
    is.members (escaped id)
    ∙ ap (λ (ls : List (List ℕ)). list_any (bytes_eq (escaped id)) (id_words ls)) right.whole
    ∙ ap (list_any (bytes_eq (escaped id))) (listed-words area right.ids (length right.ids + right.without) right.without right.are_ids)
    ∙ any-form id (bytes-small id (small id refl)) right.ids right.are_ids
    ∙ sym (list_any-IsPermutation (bytes_eq id) ids right.ids lists.same)

none-named : (o : Option (List ℕ)) → false ≡ model.is_named [] o
none-named None = refl
none-named (Some id) = refl

-- ---- the packet

module _ (file : LinkFile) (stamp : Stamp) (area : List ℕ) (to : Address) (base : Base) (old new : Option (List ℕ)) (counted : CountedPacket) where
  sent-rest : (held : Option (List (List ℕ))) (ids : List (List ℕ)) → ((m : Filed) → Among m base.messages → is_held held m ≡ model.is_named ids (msgid_of m.echo.kept))
      → SendsPacket file stamp area to 0 held base old new counted → SendsRest file stamp area to ids base old new
  sent-rest held ids alike sends =
      let same = same-filter (is_sent held area) (model.is_lacking area ids) base.messages (λ m i. ap (λ (b : Bool). is_whole_in area m && not b) (alike m i)) in
      subst (λ (ms : List Filed). Appends old new (packet_bytes (header_to file stamp to) (map (copy_to file to) ms))) same sends.written

  pub all-rest : SendsPacket file stamp area to 0 None base old new counted → SendsRest file stamp area to [] base old new
  all-rest sends = sent-rest None [] (λ m i. none-named (msgid_of m.echo.kept)) sends

  pub listed-rest : (list : List ℕ) (words ids : List (List ℕ)) → ListsIds area list ids → IsIdList area list words → HaveByteIds base.messages
      → SendsPacket file stamp area to 0 (Some words) base old new counted → SendsRest file stamp area to ids base old new
  listed-rest list words ids lists is small sends =
      sent-rest (Some words) ids (λ m i. named-same area list words ids lists is (msgid_of m.echo.kept) (λ id e. small m i id e)) sends
