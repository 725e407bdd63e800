-- `same_pages` meets its contract: a page that the text begins with is passed over, and one with no bytes is the last.
use Rattle.std.proofs.Common.{◌∙◌, ◌≤◌, length}
use Rattle.output.specs.State.{left_of}
use Rattle.cases.proofs.Beside.{page_inside, page_same, page_fewer, none_left}
use Rattle.cases.proofs.compare.same_pages.Goals.{In-Some}
use Rattle.cases.proofs.compare.same_pages.Goals as goal

pub returns-then-page-eq0 : goal.returns-then-page-eq0
returns-then-page-eq0 c =
    let p = c.in-Some.page in
    let s = c.args.source.now in
    c.is_empty.ensures
    ∙ none_left (left_of s c.loop-page.current) (left_of s p.state) p.len _ c.in-Some.ensures.page c.requires c.if-page-eq0.true
    c.loop-page.rest.now
    ∙ c.loop-page.invariant

-- the page lies within what is left of the text
inside : (c : In-Some) → c.in-Some.page.len ≤ length c.loop-page.rest.now
inside c =
    page_inside c.loop-page.rest.now (left_of c.args.source.now c.loop-page.current) c.compare_page.result
    c.compare_page.ensures.begins c.in-Some.page c.in-Some.is _ _ c.in-Some.ensures.page

pub slice_bounds-rest-count : goal.slice_bounds-rest-count
slice_bounds-rest-count c = inside (goal.at.slice_bounds-rest-count c).In-Some

pub slice_bounds-rest-start : goal.slice_bounds-rest-start
slice_bounds-rest-start c = inside (goal.at.slice_bounds-rest-start c).In-Some

pub loop-page-smaller : goal.loop-page-smaller
loop-page-smaller c =
    let p = c.in-Some.page in
    let s = c.args.source.now in
    page_fewer (left_of s c.loop-page.current) (left_of s p.state) p.len _ c.in-Some.ensures.page c.if-page-eq0.false

pub loop-page-preserved : goal.loop-page-preserved
loop-page-preserved c =
    page_same c.loop-page.rest.now (left_of c.args.source.now c.loop-page.current) c.compare_page.result
    c.compare_page.ensures.begins c.in-Some.page c.in-Some.is _ _ c.in-Some.ensures.page
    ∙ c.loop-page.invariant
