-- A system lists another that does not list it back: its postings never come there.
use Rattle.std.proofs.Common.{◌≡◌, ◌⊎◌, ◌∙◌, inl, inr, refl, sym, subst, ap, ℕ, IsTrue, List, [], ◌∷◌, map, Some, None, arith}
use Rattle.std.specs.Prelude.{true}
use Rattle.echo_addr.specs.{declared.address.Address.Address, Address.{IsAddress, net_node_of}}
use Rattle.echo_filed.specs.{declared.key.Key.{Key, TheVariants.ById}, Filed.{Filed, key_of}}
use Rattle.echo_filed.proofs.Keys.{same_key_decides}
use Rattle.echo_links.specs.Links.{IsFile, LinkFile, has_area, is_link, links_of, upper}
use Rattle.echo_text.specs.Ids.{id_of}
use Rattle.model_graph.{specs.Walk.Among, proofs.Members.{Among-append_left, Among-append_right}}
use Rattle.model_steps.specs.{declared.{draft.Draft.Draft, stamp.Stamp.Stamp}, Posting.posted, Scanning.is_seen_by}
use Rattle.model_run.{specs.{Event.RunEvent, Fits.FilesFit, Grave.HaveOwnAddresses, Orderly.{count, tag_of}, Run.{System, run_of}, Tidy.{Carries, lists}}, proofs.{Areas.{among-seen, key-tag, link-among, one_name, seen-among}, Bases.{Kept-count}, Copies.{Targeted, copied, copied-key, seen-copied}, HarmLists.among-nth, HarmSteps.run-files, Lists.{Among-map_from, Among-map_to, not_both}, Places.{carrier-file, file-lists, lists-file}, Targets.none_some, TosserLaws.the_laws, WholeRuns.run-ok}}
use Rattle.model_run.{specs.Losses.{Loses, NeverComes}, proofs.Flows.{Flowing, Keeps, run-flows}}

-- the message has an id that a wrote in the area
abbrev pub Mine : List ℕ → Address → Filed → Type 0
Mine tag a m = (serial : ℕ) × (key_of m ≡ ById tag (id_of a serial))

-- a message that was posted here has an id of this system
abbrev pub HasOwnId : LinkFile → Filed → Type 0
HasOwnId file m = m.sender ≡ None → Mine m.echo.tag file.system m

pub posted-own_id : (file : LinkFile) → IsFile file → (tag : List ℕ) (draft : Draft) (serial : ℕ) (stamp : Stamp) → Mine (upper tag) file.system (posted file tag draft serial stamp)
posted-own_id file fits tag draft serial stamp = (serial, the_laws.posted_key file tag draft serial stamp fits)

pub posted-tag : (file : LinkFile) (tag : List ℕ) (draft : Draft) (serial : ℕ) (stamp : Stamp) → (posted file tag draft serial stamp).echo.tag ≡ upper tag
unfolding posted
posted-tag file tag draft serial stamp = refl

pub posted-holds : (file : LinkFile) → IsFile file → (tag : List ℕ) (draft : Draft) (serial : ℕ) (stamp : Stamp) → HasOwnId file (posted file tag draft serial stamp)
posted-holds file fits tag draft serial stamp own =
    subst (λ (t : List ℕ). Mine t file.system (posted file tag draft serial stamp)) (sym (posted-tag file tag draft serial stamp)) (posted-own_id file fits tag draft serial stamp)

pub copied-sender : (file : LinkFile) (m : Filed) → (copied file m).sender ≡ Some file.system
unfolding copied
copied-sender file m = refl

pub copied-none : (file : LinkFile) (m : Filed) → (copied file m).sender ≡ None → ⊥
copied-none file m none = none_some (sym none ∙ copied-sender file m)

-- who wrote an id
pub one-writer : (tag t : List ℕ) (a b : Address) (m : Filed) → IsAddress a → IsAddress b → Mine tag a m → Mine t b m → a ≡ b
one-writer tag t a b m is_a is_b (serial, e) (other, g) =
    let same : ById tag (id_of a serial) ≡ ById t (id_of b other) = sym e ∙ g in
    let ids : id_of a serial ≡ id_of b other = cc in
    the_laws.ids a b serial other is_a is_b ids

pub mine-tag : (tag : List ℕ) (a : Address) (m : Filed) → Mine tag a m → m.echo.tag ≡ tag
mine-tag tag a m (serial, e) = sym (key-tag m) ∙ ap tag_of e

pub mine-copied : (tag : List ℕ) (a : Address) (file : LinkFile) (m : Filed) → Mine tag a (copied file m) → Mine tag a m
mine-copied tag a file m (serial, e) = (serial, sym (copied-key file m) ∙ e)

-- a message with this key is in the base if it was filed
pub none-counted : (key : Key) (ms : List Filed) → ((m : Filed) → Among m ms → key_of m ≡ key → ⊥) → count key ms ≡ 0
none-counted key [] none = refl
none-counted key (m ∷ ms) none = grind (arith, not_both, same_key_decides, none-counted key ms (λ n h. none n (inr h)))

pub file-in : (files : List LinkFile) (events : List RunEvent) (s : System) → Among s (run_of files events).systems → Among s.file files
file-in files events s h = subst (λ (fs : List LinkFile). Among s.file fs) (run-files files events) (Among-map_to (λ (z : System). z.file) s (run_of files events).systems h)

pub system-of : (files : List LinkFile) (tag : List ℕ) (b : Address) → Carries files tag b → (events : List RunEvent) →
    (z : System) × Among z (run_of files events).systems × (z.file.system ≡ b) × IsTrue (has_area z.file tag)
system-of files tag b carries events =
    let (file, there, address, area) = carrier-file files tag b carries in
    let (z, at, is) = Among-map_from (λ (t : System). t.file) file (run_of files events).systems (subst (λ (fs : List LinkFile). Among file fs) (sym (run-files files events)) there) in
    (z, at, ap (λ (f : LinkFile). f.system) (sym is) ∙ address, ap (λ (f : LinkFile). has_area f tag) (sym is) ∙ area)

-- what never comes is lost once all has settled
pub lost : (files : List LinkFile) (tag : List ℕ) (a b : Address) → NeverComes files tag a b → Carries files tag b → Loses files tag a
lost files tag a b never carries events settled s at_s own m filed posting =
    let (z, at_z, address, area) = system-of files tag b carries events in
    record {
      settled = settled;
      poster = s;
      at_poster = at_s;
      message = m;
      filed = filed;
      posting = posting;
      system = z;
      there = at_z;
      carries = area;
      lacks = never events s at_s own m filed posting z at_z address;
    }

module _ (files : List LinkFile) (fit : FilesFit files) (events : List RunEvent) (s : System) (at : Among s (run_of files events).systems) where
  pub base-count : (key : Key) → count key s.base ≡ count key s.history
  base-count key = Kept-count key s.cursor s.base s.history ((run-ok the_laws files fit events).systems s at).kept

module _ (files : List LinkFile) (tag : List ℕ) (fit : FilesFit files) (one_file : HaveOwnAddresses files) (a b : Address)
    (forth : IsTrue (lists files tag a b)) (not_back : ¬ IsTrue (lists files tag b a)) where
  -- b is another system
  differ : a ≡ b → ⊥
  differ same = not_back (subst (λ (x : Address). IsTrue (lists files tag x a)) same (subst (λ (x : Address). IsTrue (lists files tag a x)) (sym same) forth))

  lister : (file : LinkFile) × Among file files × (file.system ≡ a) × (is_link file tag b ≡ true)
  lister = lists-file files tag a b forth

  is_a : IsAddress a
  is_a = subst IsAddress lister.2 (fit lister.0 lister.1).address

  -- a file of a lists b
  lists-b : (file : LinkFile) → Among file files → file.system ≡ a → is_link file tag b ≡ true
  lists-b file there own =
      let same : lister.0 ≡ file = one_name (λ (f : LinkFile). f.system) files one_file lister.0 file lister.1 there (lister.2 ∙ sym own) in
      subst (λ (f : LinkFile). is_link f tag b ≡ true) same lister.3

  -- a message of a has b in its SEEN-BY, but at a; and it is not at b
  abbrev Holds : LinkFile → Filed → Type 0
  Holds file m = HasOwnId file m × (Mine tag a m → ((file.system ≡ a) ⊎ (is_seen_by m b ≡ true)) × (file.system ≡ b → ⊥))

  abbrev Sends : Address → Address → Filed → Type 0
  Sends from to c = (c.sender ≡ None → ⊥) × (Mine tag a c → (is_seen_by c b ≡ true) × (to ≡ b → from ≡ a))

  posts : (file : LinkFile) → Among file files → (t : List ℕ) (draft : Draft) (serial : ℕ) (stamp : Stamp) → Holds file (posted file t draft serial stamp)
  posts file there t draft serial stamp =
      let fits = fit file there in (
        posted-holds file fits t draft serial stamp,
        λ mine.
            let own : a ≡ file.system = one-writer tag (upper t) a file.system (posted file t draft serial stamp) is_a fits.address mine (posted-own_id file fits t draft serial stamp) in
            (inl (sym own), λ at_b. differ (own ∙ at_b)),
      )

  -- SEEN-BY of a copy
  seen-after : (file : LinkFile) → Among file files → (m : Filed) → Mine tag a m → (file.system ≡ a) ⊎ (is_seen_by m b ≡ true) → is_seen_by (copied file m) b ≡ true
  seen-after file there m mine (inr seen) =
      among-seen (copied file m) b (seen-copied the_laws file m (net_node_of b) (Among-append_left (net_node_of b) m.echo.seen (map net_node_of (file.system ∷ links_of file m.echo.tag)) (seen-among m b seen)))
  seen-after file there m mine (inl own) =
      let in_links : Among b (links_of file m.echo.tag) = subst (λ (t : List ℕ). Among b (links_of file t)) (sym (mine-tag tag a m mine)) (link-among file tag b (lists-b file there own)) in
      among-seen (copied file m) b (seen-copied the_laws file m (net_node_of b)
      (Among-append_right (net_node_of b) m.echo.seen (map net_node_of (file.system ∷ links_of file m.echo.tag)) (inr (Among-map_to net_node_of b (links_of file m.echo.tag) in_links))))

  sends : (file : LinkFile) → Among file files → (m : Filed) → Holds file m → (to : Address) → Targeted the_laws file m to → Sends file.system to (copied file m)
  sends file there m holds to target = (
    copied-none file m,
    λ mine_copy.
        let mine = mine-copied tag a file m mine_copy in
        let (where_from, not_b) = holds.1 mine in (
          seen-after file there m mine where_from,
          λ to_b. elim where_from [
            | inl own ↦ own
            | inr seen ↦ absurd (target.not_seen (subst (λ (x : Address). Among (net_node_of x) m.echo.seen) (sym to_b) (seen-among m b seen)))
          ],
        ),
  )

  comes : (file : LinkFile) → Among file files → (from : Address) (c : Filed) → Sends from file.system c → is_link file c.echo.tag from ≡ true → Holds file c
  comes file there from c sent link = (
    λ own. absurd (sent.0 own),
    λ mine.
        let (seen, only_a) = sent.1 mine in (
          inr seen,
          λ at_b.
              let from_a = only_a at_b in
              let link_a : is_link file tag a ≡ true = subst (λ (t : List ℕ). is_link file t a ≡ true) (mine-tag tag a c mine) (subst (λ (x : Address). is_link file c.echo.tag x ≡ true) from_a link) in
              not_back (subst (λ (x : Address). IsTrue (lists files tag x a)) at_b (file-lists files tag file there a link_a)),
        ),
  )

  keeps : Keeps the_laws files Holds Sends
  keeps = record { posts = posts; sends = sends; comes = comes }

  pub never : NeverComes files tag a b
  never events s at_s own m filed posting z at_z at_b =
      let flow : Flowing the_laws files Holds Sends (run_of files events) = run-flows the_laws files Holds Sends keeps fit events in
      let (i, nth_s) = among-nth s (run_of files events).systems at_s in
      let (j, nth_z) = among-nth z (run_of files events).systems at_z in
      let id = (flow.held i s nth_s m filed).0 posting.own in
      let mine : Mine tag a m = subst (λ (t : List ℕ). Mine t a m) posting.area (subst (λ (x : Address). Mine m.echo.tag x m) own id) in
      base-count files fit events z at_z (key_of m)
      ∙ none-counted (key_of m) z.history (λ n h same. (
      let mine_n : Mine tag a n = (mine.0, same ∙ mine.1) in
      ((flow.held j z nth_z n h).1 mine_n).1 at_b))
