-- The area in link files, and the keys of its messages.
use Rattle.std.{proofs.{Common.{◌≡◌, inl, inr, refl, sym, ap, ◌∙◌, ℕ, IsTrue, List, [], ◌∷◌, map, Some, arith, nat_lt, ◌≢◌, ◌⊎◌, ◌++◌}, lemmas.Bool.{not-true, cond-true, cond-false, Decides.nat_tests}}, specs.{Prelude.{Bool, true, false, bytes_eq, is_some, ◌&&◌, not, find}, List.{AllByRecursion, list_all}, Char.to_ascii_uppercase, Cmp.Lexicographic.bytes_decides}}
use Rattle.echo_addr.specs.{declared.address.Address.Address, Address.IsAddress, Address.net_node_of, declared.address.NetNode.NetNode}
use Rattle.model_graph.{specs.Walk.{Among, Different}, proofs.Members.{Among-at, Among-append_cases, Among-append_left, Among-append_right, Among-from_Contains, Contains-from_Among}}
use Rattle.model_run.{specs.{Nets.Joined, Run.System, Orderly.tag_of, Tidy.{lists, Carries}, AreaNets.net_of}, proofs.{Lists.{not_both, and-parts, and-from, any-to, any-from, Among-map_to, Among-map_from, yes_or_no, Among-filter_from, Among-filter_to}, TosserPremises.Laws}}
use Rattle.echo_links.{specs.Links.{Area, LinkFile, has_area, is_link, links_of, same_address, IsArea, IsFile, upper}, proofs.Addresses.same_address_decides}
use Rattle.echo_filed.{specs.{declared.key.Key.{Key, TheVariants.ById}, Filed.{Filed, key_of}, Sets.{entry_set, same_entry}}, proofs.Orders.{entry_set_is_set, same_entry_decides}}
use Rattle.echo_text.specs.{Echo.EchoText, Ids.id_of, Lines.is_tag, Lines.is_tag_byte}
use Rattle.model_steps.specs.Scanning.{exported, is_seen_by, is_sender, targets}
use Rattle.model_run.specs.Tidy as files_are

pub key-tag : (m : Filed) → tag_of (key_of m) ≡ m.echo.tag
unfolding key_of
key-tag m = grind arith

-- the key of an id of this address in the area
abbrev pub Wrote : List ℕ → Address → Key → Type 0
Wrote tag a k = IsAddress a × ((serial : ℕ) × (k ≡ ById tag (id_of a serial)))

abbrev pub address_of : System → Address
address_of s = s.file.system

module _ (laws : Laws) where
  pub bytes-same : (x y : List ℕ) → bytes_eq x y ≡ true → x ≡ y
  bytes-same x y t =
      let same = laws.keys.sound (ById x []) (ById y []) (and-from (bytes_eq x y) (bytes_eq [] []) t refl) in
      cc

  pub one-writer : (tag : List ℕ) (f g : Address) (k : Key) → Wrote tag f k → Wrote tag g k → f ≡ g
  one-writer tag f g k wrote_f wrote_g = grind arith

pub one_name : {X Y : Type 0} (g : X → Y) (xs : List X) → Different (map g xs) → (x y : X) → Among x xs → Among y xs → g x ≡ g y → x ≡ y
one_name g [] d x y i j e = absurd i
one_name g (z ∷ xs) d x y i j e = grind (arith, Among-at, Among-map_to, one_name g xs d.1 x y)

pub map-map : {X Y Z : Type 0} (g : Y → Z) (f : X → Y) (xs : List X) → map g (map f xs) ≡ map (λ x. g (f x)) xs
map-map g f [] = refl
map-map g f (x ∷ xs) = ap (λ (zs : List _). g (f x) ∷ zs) (map-map g f xs)

pub names-are : (ss : List System) (files : List LinkFile) → map (λ (s : System). s.file) ss ≡ files → map address_of ss ≡ map (λ (f : LinkFile). f.system) files
names-are ss files e = sym (map-map (λ (f : LinkFile). f.system) (λ (s : System). s.file) ss) ∙ ap (λ (fs : List LinkFile). map (λ (f : LinkFile). f.system) fs) e

pub link-has_area : (file : LinkFile) (tag : List ℕ) (a : Address) → is_link file tag a ≡ true → has_area file tag ≡ true
unfolding links_of
link-has_area file tag a h = grind (arith, not_both)

module _ (laws : Laws) (files : List LinkFile) (tag : List ℕ) (joined : files_are.Joined files tag) where
  abbrev linked : Address → Address → Bool
  linked = lists files tag

  lists-carries : (a b : Address) → IsTrue (linked a b) → Carries files tag a
  lists-carries a b h = grind (arith, any-from, and-parts, any-to, and-from, link-has_area)

  pub joined-net : Joined (net_of files tag)
  joined-net = grind (arith, lists-carries)

  -- the systems of a run with these files
  module _ (ss : List System) (same_files : map (λ s. s.file) ss ≡ files) where
    pub addresses_differ : Different (map address_of ss)
    addresses_differ = grind (arith, map-map)

    file-of : (file : LinkFile) → Among file files → (s : System) × Among s ss × (file ≡ s.file)
    file-of file i = grind (arith, Among-map_from)

    pub file-in : (s : System) → Among s ss → Among s.file files
    file-in s i = grind (arith, Among-map_to)

    pub lists-link : (s : System) → Among s ss → (b : Address) → IsTrue (linked (address_of s) b) → is_link s.file tag b ≡ true
    lists-link s at_s b h = grind (arith, any-from, and-parts, file-of, one_name, addresses_differ)

    pub link-lists : (s : System) → Among s ss → (b : Address) → is_link s.file tag b ≡ true → IsTrue (linked (address_of s) b)
    link-lists s at_s b h = grind (arith, any-to, file-in, and-from)

    pub area-carries : (s : System) → Among s ss → has_area s.file tag ≡ true → Carries files tag (address_of s)
    area-carries s at_s h = grind (arith, any-to, file-in, and-from)

    pub one-system : (s z : System) → Among s ss → Among z ss → address_of s ≡ address_of z → s ≡ z
    one-system = one_name address_of ss addresses_differ

-- The tag of an area that was read has no small letters. So a posting in it can name the tag itself.

upper-byte : (b : ℕ) → is_tag_byte b ≡ true → to_ascii_uppercase b ≡ b
upper-byte b h = grind (arith, and-parts, yes_or_no, nat_lt, cond-true, cond-false, not_both, nat_tests)

upper-bytes : (tag : List ℕ) → list_all is_tag_byte tag ≡ true → upper tag ≡ tag
upper-bytes [] h = refl
upper-bytes (b ∷ tag) h = grind (arith, and-parts, upper-byte, upper-bytes tag)

found : (areas : List Area) (tag : List ℕ) → AllByRecursion IsArea areas → is_some (find (λ (area : Area). bytes_eq area.tag tag) areas) ≡ true → is_tag tag ≡ true
found [] tag all h = absurd (not_both false h refl)
found (area ∷ areas) tag all h =
    elim (yes_or_no (bytes_eq area.tag tag)) [
      | inl t ↦ ap is_tag (sym ((bytes_decides area.tag tag).0 t)) ∙ all.0.tag_bytes
      | inr f ↦ grind (arith, cond-false, found areas tag all.1)
    ]

pub upper-same : (file : LinkFile) (tag : List ℕ) → IsFile file → has_area file tag ≡ true → upper tag ≡ tag
upper-same file tag fits h = grind (arith, found, upper-bytes, and-parts, nat_lt)

pub link-area : (file : LinkFile) (tag : List ℕ) (a : Address) → Among a (links_of file tag) → has_area file tag ≡ true
unfolding links_of
link-area file tag a h = grind arith

-- Targets of a message, and the entries of an exported copy.

pub link-among : (file : LinkFile) (tag : List ℕ) (a : Address) → is_link file tag a ≡ true → Among a (links_of file tag)
link-among file tag a h = grind (arith, any-from, same_address_decides)

pub among-link : (file : LinkFile) (tag : List ℕ) (a : Address) → Among a (links_of file tag) → is_link file tag a ≡ true
among-link file tag a h = any-to (same_address a) a (links_of file tag) h ((same_address_decides a a).1 refl)

pub target-link : (file : LinkFile) (m : Filed) (a : Address) → Among a (targets file m) → Among a (links_of file m.echo.tag)
unfolding targets
target-link file m a h = (Among-filter_from (λ link. not (is_sender m link) && not (is_seen_by m link)) a (links_of file m.echo.tag) h).0

pub target-unseen : (file : LinkFile) (m : Filed) (a : Address) → Among a (targets file m) → is_seen_by m a ≡ false
unfolding targets
target-unseen file m a h = grind (arith, not-true, and-parts, Among-filter_from)

pub target-to : (file : LinkFile) (m : Filed) (a : Address) → Among a (links_of file m.echo.tag) → m.sender ≢ Some a → is_seen_by m a ≡ false → Among a (targets file m)
unfolding targets
target-to file m a h other unseen = grind (arith, Among-filter_to, and-from, yes_or_no, same_address_decides)

pub listed-from : (file : LinkFile) (e : EchoText) (n : NetNode) → Among n (exported file e).seen →
    Among n e.seen ⊎ ((n ≡ net_node_of file.system) ⊎ ((z : Address) × Among z (links_of file e.tag) × (n ≡ net_node_of z)))
unfolding exported
listed-from file e n h =
    let own = map net_node_of (file.system ∷ links_of file e.tag) in
    let all = e.seen ++ own in
    elim (Among-append_cases n e.seen own (Among-from_Contains n all (((entry_set_is_set all).members n).0 (Contains-from_Among n (entry_set all) h)))) [
      | inl old ↦ inl old
      | inr new ↦ elim new [
        | inl here ↦ inr (inl here)
        | inr later ↦ inr (inr (Among-map_from net_node_of n (links_of file e.tag) later))
      ]
    ]

pub listed-to : (file : LinkFile) (e : EchoText) (n : NetNode) →
    Among n e.seen ⊎ ((n ≡ net_node_of file.system) ⊎ ((z : Address) × Among z (links_of file e.tag) × (n ≡ net_node_of z))) →
    Among n (exported file e).seen
unfolding exported
listed-to file e n h =
    let own = map net_node_of (file.system ∷ links_of file e.tag) in
    let all = e.seen ++ own in
    let P : NetNode → Type 0 = λ x. Among x own in
    let there : Among n all = grind (arith, Among-append_left, Among-append_right, Among-map_to) in
    Among-from_Contains n (entry_set all) (((entry_set_is_set all).members n).1 (Contains-from_Among n all there))

pub exported-path : (file : LinkFile) (e : EchoText) → (exported file e).path ≡ e.path ++ net_node_of file.system ∷ []
unfolding exported
exported-path file e = refl

pub exported-tag : (file : LinkFile) (e : EchoText) → (exported file e).tag ≡ e.tag
unfolding exported
exported-tag file e = refl

pub seen-among : (m : Filed) (a : Address) → is_seen_by m a ≡ true → Among (net_node_of a) m.echo.seen
seen-among m a h = grind (arith, any-from, same_entry_decides)

pub among-seen : (m : Filed) (a : Address) → Among (net_node_of a) m.echo.seen → is_seen_by m a ≡ true
among-seen m a h = any-to (same_entry (net_node_of a)) (net_node_of a) m.echo.seen h ((same_entry_decides (net_node_of a) (net_node_of a)).1 refl)
