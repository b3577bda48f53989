use Rattle.command_orders.proofs.order_runs.run_order.Goals as goal

pub returns-in-Solve-clause-run : goal.returns-in-Solve-clause-run
returns-in-Solve-clause-run g c = rw c.in-Solve.is (c.solve.ensures.unread, (c.solve_plan.result, c.solve_plan.ensures, c.solve.ensures.run))
