use Rattle.base_folder_store.specs.State.{IsCached, state_of}
use Rattle.base_folder_store.proofs.{Cached.cached_same, Stated.committed, Stated.may_commit, Stated.stages, WhereSo.commits_where, WhereSo.may_commit_where, WhereSo.nothing_where}
use Rattle.base_folder_store.proofs.folder_store.FolderStoreStore.commit.Goals as goal

pub returns-clause-committed : goal.returns-clause-committed
returns-clause-committed g c =
    let s = c.args.self.now in
    let d = g.D.Disk.state s.disk in
    let e = g.D.Disk.state c.commit.new.disk in
    let keyed = g.H.Digest.keyed in
    let now = c.commit.new.self in
    let says = c.commit.ensures in
    commits_where (state_of d keyed s.folder s.message) (state_of e keyed now s.message) (IsCached d s.folder s.index s.buffers) (IsCached e now s.index s.buffers) s.unread c.commit.result
    (committed d e keyed s.folder now s.message s.message c.commit.result says.stays says.done says.run.outside)
    (cached_same d e s.folder now s.index s.buffers c.commit.result says.done.same says.run.outside.honest c.requires.1)

pub returns-clause-either : goal.returns-clause-either
returns-clause-either g c =
    let s = c.args.self.now in
    let d = g.D.Disk.state s.disk in
    let e = g.D.Disk.state c.commit.new.disk in
    let keyed = g.H.Digest.keyed in
    let now = c.commit.new.self in
    may_commit_where (state_of d keyed s.folder s.message) (state_of e keyed now s.message) (IsCached d s.folder s.index s.buffers) (IsCached e now s.index s.buffers) s.unread
    (may_commit d e keyed s.folder now s.message s.message c.commit.ensures.stays.path c.commit.ensures.run)

pub returns-clause-refused : goal.returns-clause-refused
returns-clause-refused g c is =
    let s = c.args.self.now in
    let d = g.D.Disk.state s.disk in
    let e = g.D.Disk.state c.commit.new.disk in
    let keyed = g.H.Digest.keyed in
    let now = c.commit.new.self in
    nothing_where (state_of d keyed s.folder s.message) (state_of e keyed now s.message) (IsCached d s.folder s.index s.buffers) (IsCached e now s.index s.buffers) s.unread
    (stages d e keyed s.folder now s.message s.message c.commit.ensures.stays.path (record { any_moment = λ honest. c.commit.ensures.refused honest is; outside = c.commit.ensures.run.outside }))
