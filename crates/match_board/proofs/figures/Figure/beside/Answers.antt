use Rattle.match_board.proofs.figures.Figure.beside.Goals as goal

pub returns-in-Rectangle-clause-side : goal.returns-in-Rectangle-clause-side
returns-in-Rectangle-clause-side c = rw c.in-Rectangle.is c.beside.ensures.side

pub returns-in-Rectangle-clause-found : goal.returns-in-Rectangle-clause-found
returns-in-Rectangle-clause-found c = rw c.in-Rectangle.is c.beside.ensures.found

pub returns-in-Rectangle-clause-only : goal.returns-in-Rectangle-clause-only
returns-in-Rectangle-clause-only c = rw c.in-Rectangle.is c.beside.ensures.only

pub returns-in-Triangle-clause-side : goal.returns-in-Triangle-clause-side
returns-in-Triangle-clause-side c = rw c.in-Triangle.is c.beside-in-Triangle.ensures.side

pub returns-in-Triangle-clause-found : goal.returns-in-Triangle-clause-found
returns-in-Triangle-clause-found c = rw c.in-Triangle.is c.beside-in-Triangle.ensures.found

pub returns-in-Triangle-clause-only : goal.returns-in-Triangle-clause-only
returns-in-Triangle-clause-only c = rw c.in-Triangle.is c.beside-in-Triangle.ensures.only

pub returns-in-Hexagon-clause-side : goal.returns-in-Hexagon-clause-side
returns-in-Hexagon-clause-side c = rw c.in-Hexagon.is c.beside-in-Hexagon.ensures.side

pub returns-in-Hexagon-clause-found : goal.returns-in-Hexagon-clause-found
returns-in-Hexagon-clause-found c = rw c.in-Hexagon.is c.beside-in-Hexagon.ensures.found

pub returns-in-Hexagon-clause-only : goal.returns-in-Hexagon-clause-only
returns-in-Hexagon-clause-only c = rw c.in-Hexagon.is c.beside-in-Hexagon.ensures.only

pub returns-in-Shape-clause-side : goal.returns-in-Shape-clause-side
returns-in-Shape-clause-side c = rw c.in-Shape.is c.beside-in-Shape.ensures.side

pub returns-in-Shape-clause-found : goal.returns-in-Shape-clause-found
returns-in-Shape-clause-found c = rw c.in-Shape.is c.beside-in-Shape.ensures.found

pub returns-in-Shape-clause-only : goal.returns-in-Shape-clause-only
returns-in-Shape-clause-only c = rw c.in-Shape.is c.beside-in-Shape.ensures.only
